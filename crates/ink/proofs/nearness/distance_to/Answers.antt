use Rattle.std.proofs.Common.{◌≡◌, ◌+◌, ◌<◌, ◌≤◌, get_or, pos, ◌-ℤ◌, nat_abs, ◌≤ℤ◌, ap, ◌∙◌, arith, w32, to_z, of_z}
use Rattle.std.proofs.lemmas.Int.{ints}
use Rattle.ink.specs.Values.{highest, lowest}
use Rattle.ink.proofs.Distance.{distance_more, distance_small}
use Rattle.ink.proofs.nearness.distance_to.Goals as goal

pub loop-i-preserved : goal.loop-i-preserved
loop-i-preserved g c =
    let i = c.loop-i.i in
    let v = get_or c.args.wanted.now i (pos 0) in
    let three : i < 3 = omega (arith, c.channels-i-end.ensures, g.met.T.Tone.few) in
    let low : lowest ≤ℤ v = (c.requires i three).0 in
    let high : v ≤ℤ highest = (c.requires i three).1 in
    let y = g.T.Tone.value c.args.ink i in
    let byte : y ≤ 255 = g.met.T.Tone.byte c.args.ink i (omega (arith, c.channels-i-end.ensures)) in
    let exact : to_z w32 (of_z w32 (to_z w32 (of_z w32 v) -ℤ to_z w32 (of_z w32 c.from.result))) ≡ v -ℤ pos y = omega (arith, ints) in
    let d : c.unsigned_abs-difference.result ≡ nat_abs (v -ℤ pos y) = c.unsigned_abs-difference.ensures.value ∙ ap nat_abs exact in
    distance_more i g.T.Tone.value c.args.wanted.now c.args.ink c.loop-i.sum c.weight.result c.unsigned_abs-difference.result c.loop-i.invariant c.weight.ensures d

pub overflow_add-sum : goal.overflow_add-sum
overflow_add-sum g c =
    let i = c.loop-i.i in
    let within : i < g.T.Tone.count = omega (arith, c.channels-i-end.ensures) in
    omega (
      arith,
      loop-i-preserved g c,
      g.met.T.Tone.few,
      distance_small (i + 1) g.T.Tone.value c.args.wanted.now c.args.ink (omega (arith, g.met.T.Tone.few)) c.requires (λ j p. g.met.T.Tone.byte c.args.ink j (omega arith)),
    )
