use Rattle.std.proofs.Common.{rules}
use Rattle.netpbm.proofs.Digits.{run_within}
use Rattle.netpbm.proofs.fields.Fields.skip_white.Goals as goal

pub overflow_add-self : goal.overflow_add-self
overflow_add-self c = search (rules, run_within)
