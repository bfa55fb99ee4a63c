use Rattle.ink.proofs.LevelLoops.{Filling}
use Rattle.ink.proofs.levels.Levels.channel_values.Given as goal

abbrev pub invariant-loop-i : goal.invariant-loop-i
invariant-loop-i g l = Filling l.self.steps g.T.Tone.count l.ink l.i l.high l.values
