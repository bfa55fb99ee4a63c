use Rattle.std.proofs.Common.{rules}
use Rattle.netpbm.specs.Headers.{no_last_field, not_full}
use Rattle.netpbm.proofs.Judged.{not_ended}
use Rattle.netpbm.proofs.fields.Fields.maximum.Goals as goal

pub returns-in_err-value-clause-maximum : goal.returns-in_err-value-clause-maximum
returns-in_err-value-clause-maximum c = search (rules, no_last_field)

pub returns-then-not-is_some_and-clause-maximum : goal.returns-then-not-is_some_and-clause-maximum
returns-then-not-is_some_and-clause-maximum c = search (rules, not_ended)

pub returns-then-value-ne255-clause-maximum : goal.returns-then-value-ne255-clause-maximum
returns-then-value-ne255-clause-maximum c = search (rules, not_full)
