use Rattle.std.proofs.Common.{◌≡◌, None}
use Rattle.preview.specs.Missing.{first, lack}
use Rattle.preview.proofs.looking.missing_in_row.Given as goal

abbrev pub invariant-loop-column : goal.invariant-loop-column
invariant-loop-column g l = first (λ c. lack ((g.S.Source.page l.source).place l.row c)) l.column ≡ None
