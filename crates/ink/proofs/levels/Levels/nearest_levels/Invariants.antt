use Rattle.std.proofs.Common.{◌≡◌, get_or, map, pos}
use Rattle.ink.specs.LevelRules.{gap_of, ink_of, level}
use Rattle.ink.specs.Values.{limited}
use Rattle.ink.proofs.levels.Levels.nearest_levels.Given as goal

abbrev pub invariant-loop-value : goal.invariant-loop-value
invariant-loop-value g l =
    l.ink ≡ ink_of l.self.steps (λ i. level (gap_of l.self.steps) (get_or (map limited l.fn.wanted) i (pos 0))) l.value-index
