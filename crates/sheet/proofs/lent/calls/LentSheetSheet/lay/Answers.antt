use Rattle.std.proofs.Common.{set, refl, length-set, arith}
use Rattle.sheet.proofs.Packed.{Relaid, laid_anew}
use Rattle.sheet.proofs.lent.calls.LentSheetSheet.lay.Given.{Over}
use Rattle.sheet.proofs.lent.calls.LentSheetSheet.lay.Goals as goal
use Rattle.sheet.proofs.lent.calls.LentSheetSheet.lay.Goals.{After-with_ink}

-- the memory, the byte of the place being written
laid : (g : Over) (c : After-with_ink g) → let s = c.args.self.now in
    Relaid g.P.Packing.meaning g.met.P.Packing.laws s.memory.now (set s.memory.now c.in_ok-at.at c.with_ink.result) s.width s.height
    c.args.row c.args.column c.args.number
laid g c =
    let s = c.args.self.now in
    let place = c.in_ok-at.ensures.place in
    laid_anew g.P.Packing.meaning g.met.P.Packing.laws s.memory.now s.width s.height c.args.row c.args.column c.args.number
    c.in_ok-at.at c.with_ink.result place.0 place.1 (omega (arith, c.limit.ensures)) place.2 s.below s.packed (c.with_ink.ensures _ _ _ place.1)

pub invariant_of-self-clause-room : goal.invariant_of-self-clause-room
invariant_of-self-clause-room g c = rw (length-set c.args.self.now.memory.now c.in_ok-at.at c.with_ink.result) c.args.self.now.room

pub invariant_of-self-clause-below : goal.invariant_of-self-clause-below
invariant_of-self-clause-below g c = (laid g c).below

pub invariant_of-self-clause-packed : goal.invariant_of-self-clause-packed
invariant_of-self-clause-packed g c = (laid g c).packed

pub returns-clause-after : goal.returns-clause-after
returns-clause-after g c = record { width = refl; height = refl; limit = refl; inks = (laid g (goal.at.returns-clause-after g c).After-with_ink).inks }

pub returns-clause-keeps : goal.returns-clause-keeps
returns-clause-keeps g c = (refl, (laid g (goal.at.returns-clause-keeps g c).After-with_ink).past)
