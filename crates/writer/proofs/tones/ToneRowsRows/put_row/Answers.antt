use Rattle.std.proofs.Common.{rules}
use Rattle.writer.proofs.Fill.{fill_more}
use Rattle.writer.proofs.tones.ToneRowsRows.put_row.Goals as goal

pub loop-column-preserved : goal.loop-column-preserved
loop-column-preserved g c = fill_more _ _ _ _ _ (search rules) (search rules) (search rules) c.loop-column.invariant
