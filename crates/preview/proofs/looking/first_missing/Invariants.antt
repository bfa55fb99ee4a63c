use Rattle.std.proofs.Common.{◌≡◌, None}
use Rattle.preview.specs.Missing.{first, missing_of_row}
use Rattle.preview.proofs.looking.first_missing.Given as goal

abbrev pub invariant-loop-row : goal.invariant-loop-row
invariant-loop-row g l = first (missing_of_row (g.S.Source.page l.source)) l.row ≡ None
