use Rattle.std.proofs.Common.{◌-◌, ◌*◌, ◌/◌, ◌≤◌, arith, rules}
use native.Mathlib.Nat.{div-le_of_le-mul}
use Rattle.source.proofs.chart.sample.Goals as goal

pub overflow_cast-result : goal.overflow_cast-result
overflow_cast-result c =
    let h : 255 * c.args.column ≤ (c.args.width - 1) * 255 = omega arith in
    let k : 255 * c.args.column / (c.args.width - 1) ≤ 255 = div-le_of_le-mul (c.args.width - 1) h in
    search rules
