use Rattle.std.proofs.Common.{rules}
use Rattle.writer.proofs.Fill.{fill_more}
use Rattle.writer.proofs.rows.put_rows.Goals as goal

pub loop-row-preserved : goal.loop-row-preserved
loop-row-preserved g c = fill_more _ _ _ _ _ (search rules) (search rules) c.put_row.ensures c.loop-row.invariant
