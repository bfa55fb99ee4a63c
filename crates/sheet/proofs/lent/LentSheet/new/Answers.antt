use Rattle.std.proofs.Common.{◌≡◌, ◌*◌, ◌++◌, true, length, drop, sym, refl, ◌∙◌, rules}
use Rattle.sheet.specs.Limits.{fits}
use Rattle.sheet.specs.Memory.{blank, lent_memory}
use Rattle.sheet.proofs.Packed.{inks_of, whole}
use Rattle.sheet.proofs.lent.LentSheet.new.Given.{Over}
use Rattle.sheet.proofs.lent.LentSheet.new.Goals as goal
use Rattle.sheet.proofs.lent.LentSheet.new.Goals.{After-blank_rows}

-- the memory, with its rows blank
blanked : (g : Over) (c : After-blank_rows g) → let p = g.P.Packing.meaning in
    c.blank_rows.new.rows ++ drop (c.stride.result * c.from.result) c.args.memory.now
    ≡ lent_memory p c.args.width c.args.height blank (drop (p.stride c.args.width * c.args.height) c.args.memory.now)
blanked g c = search rules

pub invariant_of-result-2-clause-below : goal.invariant_of-result-2-clause-below
invariant_of-result-2-clause-below g c = λ i j q l. let laws = g.met.P.Packing.laws in
    rw (inks_of g.P.Packing.meaning laws _ _ _ _ _ (blanked g (goal.at.invariant_of-result-2-clause-below g c).After-blank_rows) i j q l laws.some) laws.some

pub invariant_of-result-2-clause-packed : goal.invariant_of-result-2-clause-packed
invariant_of-result-2-clause-packed g c = let laws = g.met.P.Packing.laws in
    whole g.P.Packing.meaning laws _ _ _ _ _ (blanked g (goal.at.invariant_of-result-2-clause-packed g c).After-blank_rows) (λ i j q l. laws.some)

pub returns-clause-means : goal.returns-clause-means
returns-clause-means g c =
    let p = g.P.Packing.meaning in
    let laws = g.met.P.Packing.laws in
    let w = c.args.width in
    let h = c.args.height in
    let made : fits w h (c.stride.result * c.from.result) (length c.args.memory.now) ≡ true =
    sym c.can_be_made.ensures ∙ c.if-not-can_be_made.false in
    let can : fits w h (p.stride w * h) (length c.args.memory.now) ≡ true = rw (c.stride.ensures, c.from.ensures) at made in
    rw can (record {
      as_wide = refl;
      as_high = refl;
      as_limit = refl;
      inks = λ i j q l. inks_of p laws _ _ _ _ _ (blanked g (goal.at.returns-clause-means g c).After-blank_rows) i j q l laws.some;
    })
