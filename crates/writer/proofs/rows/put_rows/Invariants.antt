use Rattle.std.proofs.Common.{◌≡◌, ◌*◌, take}
use Rattle.writer.specs.Pages.{pieces}
use Rattle.writer.proofs.rows.put_rows.Given as goal

abbrev pub invariant-loop-row : goal.invariant-loop-row
invariant-loop-row g l = take (l.row * l.n) l.out ≡ pieces (g.R.Rows.bytes l.rows) l.row
