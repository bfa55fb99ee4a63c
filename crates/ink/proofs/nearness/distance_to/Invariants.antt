use Rattle.std.proofs.Common.{◌≡◌}
use Rattle.ink.specs.Nearness.{distance}
use Rattle.ink.proofs.nearness.distance_to.Given as goal

abbrev pub invariant-loop-i : goal.invariant-loop-i
invariant-loop-i g l = l.sum ≡ distance l.i g.T.Tone.value l.wanted l.ink
