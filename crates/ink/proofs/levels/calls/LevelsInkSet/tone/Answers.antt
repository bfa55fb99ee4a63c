use Rattle.std.proofs.Common.{◌≡◌, ◌^◌, ◌<◌, ◌≤◌, arith}
use Rattle.std.proofs.Math.Nat.{pow-le-pow_right, pow-suc, pow-zero}
use Rattle.ink.proofs.levels.calls.LevelsInkSet.tone.Goals as goal
use Rattle.ink.proofs.levels.calls.LevelsInkSet.tone.Goals.{then-number-count, else-number-count}

pub channel_values-values-requires : goal.channel_values-values-requires
channel_values-values-requires g c =
    let s = c.args.self.now in
    -- there are at least two inks, so that ink 1 would do here: which one it must be is said by what is ensured
    let some : 0 < s.steps = omega (arith, s.even.two) in
    let one : s.steps ^ 1 ≡ s.steps = rw (pow-suc s.steps 0, pow-zero s.steps) (omega arith) in
    let two : 2 ≤ s.steps ^ g.T.Tone.count = omega (arith, pow-le-pow_right some g.met.T.Tone.some, one, s.even.two) in
    elim c.if-number-count.branch [ then-number-count w ↦ omega (arith, c.count.ensures) | else-number-count w ↦ omega (arith, two) ]
