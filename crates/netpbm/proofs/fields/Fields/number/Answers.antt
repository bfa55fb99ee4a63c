use Rattle.std.proofs.Common.{rules}
use Rattle.netpbm.proofs.Digits.{taken_within, taken_digits}
use Rattle.netpbm.proofs.fields.Fields.number.Goals as goal

pub slice_bounds-value_of-end : goal.slice_bounds-value_of-end
slice_bounds-value_of-end c = search (rules, taken_within)

pub value_of-value-requires-clause-digits : goal.value_of-value-requires-clause-digits
value_of-value-requires-clause-digits c = search (rules, taken_digits)
