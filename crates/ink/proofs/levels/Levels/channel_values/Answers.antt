use Rattle.std.proofs.Common.{◌*◌, ap, arith}
use Rattle.ink.proofs.LevelLoops.{fill_all, fill_more, left_byte}
use Rattle.ink.proofs.levels.Levels.channel_values.Goals as goal

pub loop-i-preserved : goal.loop-i-preserved
loop-i-preserved g c =
    rw (c.quotient-high.ensures, c.args.self.now.equal)
    (fill_more c.args.self.now.steps g.T.Tone.count c.args.ink c.loop-i.i c.loop-i.high c.loop-i.values c.loop-i.invariant c.loop-i-test.true g.met.T.Tone.few)

pub overflow_cast-values-2 : goal.overflow_cast-values-2
overflow_cast-values-2 g c =
    let s = c.args.self.now in
    omega (
      arith,
      s.equal,
      ap (λ x. c.loop-i.high * x) s.equal,
      left_byte c.args.ink c.loop-i.i c.loop-i.high c.loop-i.values s.even c.requires c.loop-i.invariant c.loop-i-test.false,
    )

pub returns : goal.returns
returns g c =
    rw c.args.self.now.equal
    (fill_all c.args.self.now.steps g.T.Tone.count c.args.ink c.loop-i.i c.loop-i.high c.loop-i.values c.loop-i.invariant c.loop-i-test.false)
