use Rattle.std.proofs.Common.{rules}
use Rattle.netpbm.specs.Headers.{no_field, out_of_range}
use Rattle.netpbm.proofs.fields.Fields.size.Goals as goal

pub returns-in_err-value-clause-size : goal.returns-in_err-value-clause-size
returns-in_err-value-clause-size c = search (rules, no_field)

pub returns-in_default-clause-size : goal.returns-in_default-clause-size
returns-in_default-clause-size c = search (rules, out_of_range)
