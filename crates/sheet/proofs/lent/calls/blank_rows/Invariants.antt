use Rattle.std.proofs.Common.{◌≡◌, ℕ, ◌/◌, ◌%◌, ◌<◌, get_or}
use Rattle.sheet.specs.Memory.{blank}
use Rattle.sheet.proofs.lent.calls.blank_rows.Given as goal

abbrev pub invariant-loop-k : goal.invariant-loop-k
invariant-loop-k g l =
    let p = g.P.Packing.meaning in
    (i : ℕ) → i < l.k → get_or l.rows i 0 ≡ p.row_byte l.width blank (i / p.stride l.width) (i % p.stride l.width)
