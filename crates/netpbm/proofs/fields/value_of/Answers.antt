use Rattle.std.proofs.Common.{arith, rules}
use Rattle.netpbm.proofs.Digits.{digit_at, value_more, pow_more}
use Rattle.netpbm.proofs.fields.value_of.Goals as goal

pub overflow_sub-digit : goal.overflow_sub-digit
overflow_sub-digit c = search (rules, digit_at)

pub loop-digit-preserved : goal.loop-digit-preserved
loop-digit-preserved c =
    let i = c.loop-digit.digit-index in
    let ds = c.args.digits.now in (
      omega (arith, value_more ds i c.loop-digit-test.true, c.from.ensures, c.loop-digit.invariant.0),
      omega (arith, pow_more i, digit_at ds i c.requires.digits c.loop-digit-test.true, c.from.ensures, c.loop-digit.invariant.1),
    )
