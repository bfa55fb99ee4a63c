use Rattle.std.proofs.Common.{◌≡◌, drop}
use Rattle.ink.specs.Lists.{nearest_of, seek}
use Rattle.ink.specs.Nearness.{distance}
use Rattle.ink.proofs.nearness.nearest_ink.Given as goal

abbrev pub invariant-loop-i : goal.invariant-loop-i
invariant-loop-i g l =
    nearest_of (distance g.T.Tone.count g.T.Tone.value l.wanted) l.inks
    ≡ seek (distance g.T.Tone.count g.T.Tone.value l.wanted) l.best l.least l.i (drop l.i l.inks)
