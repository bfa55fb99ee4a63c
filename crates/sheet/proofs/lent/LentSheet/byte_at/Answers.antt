use Rattle.std.proofs.Common.{length, arith}
use Rattle.sheet.proofs.Packed.{within}
use Rattle.sheet.proofs.lent.LentSheet.byte_at.Goals as goal

pub returns-clause-inside : goal.returns-clause-inside
returns-clause-inside g c =
    let s = c.args.self.now in
    rw (c.stride.ensures, c.byte_of.ensures)
    (within g.P.Packing.meaning g.met.P.Packing.laws c.args.row c.args.column s.width s.height (length s.memory.now) (omega arith) (omega arith) s.room)
