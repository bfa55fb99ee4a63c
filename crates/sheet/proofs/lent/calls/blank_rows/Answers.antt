use Rattle.std.proofs.Common.{◌≡◌, ℕ, ◌/◌, ◌%◌, arith}
use Rattle.std.proofs.lemmas.List.Edits.{fill_by_more}
use Rattle.std.proofs.lemmas.List.FromFn.{fill_by_all}
use Rattle.sheet.specs.Memory.{blank}
use Rattle.sheet.specs.Packing.{PackingMeaning}
use Rattle.sheet.proofs.lent.calls.blank_rows.Goals as goal

abbrev blank_at : PackingMeaning → ℕ → ℕ → ℕ
blank_at p w k = p.row_byte w blank (k / p.stride w) (k % p.stride w)

pub nonzero_rem-k : goal.nonzero_rem-k
nonzero_rem-k g c = omega (arith, g.met.P.Packing.laws.inside c.args.width 0 c.requires, c.stride-stride.ensures)

pub loop-k-preserved : goal.loop-k-preserved
loop-k-preserved g c =
    let p = g.P.Packing.meaning in
    let w = c.args.width in
    let k = c.loop-k.k in
    let new : c.blank_byte.result ≡ blank_at p w k = rw c.stride-stride.ensures at c.blank_byte.ensures (k / p.stride w) in
    rw new (fill_by_more (blank_at p w) c.loop-k.rows k 0 (omega arith) c.loop-k.invariant)

pub returns : goal.returns
returns g c = fill_by_all (blank_at g.P.Packing.meaning c.args.width) c.loop-k.rows _ 0 c.loop-k.auto.rows (λ k h. c.loop-k.invariant k (omega arith))
