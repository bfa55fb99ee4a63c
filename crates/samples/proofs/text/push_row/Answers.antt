use Rattle.std.proofs.Common.{rules}
use Rattle.samples.proofs.Joined.{joined_more}
use Rattle.samples.proofs.text.push_row.Goals as goal

pub loop-column-preserved : goal.loop-column-preserved
loop-column-preserved g c = search (rules, joined_more)
