use Rattle.std.proofs.Common.{arith}
use Rattle.std.proofs.lemmas.List.FromFn.{fill_by_all}
use Rattle.writer.proofs.packed.PackedRowsRows.put_row.Goals as goal

pub returns : goal.returns
returns g c = fill_by_all _ _ _ 0 (omega arith) (λ k h. c.loop-j.invariant k (omega arith))
