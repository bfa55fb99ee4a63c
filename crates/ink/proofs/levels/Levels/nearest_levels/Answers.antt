use Rattle.std.proofs.Common.{◌≡◌, ℕ, suc, ◌+◌, ◌*◌, ◌<◌, get_or, map, pos, ap, ◌∙◌, add-one, arith, rules, w32, SFits}
use Rattle.std.proofs.lemmas.Int.{to_z-of_z}
use Rattle.ink.specs.LevelFacts.{choice_below}
use Rattle.ink.specs.LevelRules.{gap_of, ink_of, level}
use Rattle.ink.specs.Values.{limited}
use Rattle.ink.proofs.LevelLoops.{so_far}
use Rattle.ink.proofs.Limited.{level_mapped}
use Rattle.ink.proofs.levels.Levels.nearest_levels.Goals as goal

pub overflow_mul-ink : goal.overflow_mul-ink
overflow_mul-ink g c =
    let s = c.args.self.now in
    let u = map limited c.args.wanted.now in
    let within : c.loop-value.value-index < g.T.Tone.count = omega (arith, c.loop-value-test.true, c.requires) in
    omega (
      arith,
      ap (λ x. x * s.steps) c.loop-value.invariant,
      so_far s.even (λ i. level (gap_of s.steps) (get_or u i (pos 0))) (choice_below s.sound s.steps s.even u) c.loop-value.value-index within,
    )

-- the number with one more channel
next : (g : _) (c : goal.After-nearest_level g) → c.loop-value.ink * c.args.self.now.steps + c.nearest_level.result
    ≡ ink_of c.args.self.now.steps (λ i. level (gap_of c.args.self.now.steps) (get_or (map limited c.args.wanted.now) i (pos 0))) (suc c.loop-value.value-index)
next g c =
    let s = c.args.self.now in
    let u = c.args.wanted.now in
    let n = s.steps in
    let i = c.loop-value.value-index in
    let at : ℕ → ℕ = λ i. level (gap_of n) (get_or (map limited u) i (pos 0)) in
    let f : SFits w32 (get_or u i (pos 0)) = search rules in
    let r : c.nearest_level.result ≡ level s.gap (get_or u i (pos 0)) = simp to_z-of_z at c.nearest_level.ensures in
    let here : c.nearest_level.result ≡ at i =
    r ∙ (ap (λ k. level k (get_or u i (pos 0))) s.equal ∙ level_mapped (gap_of n) u i c.loop-value-test.true) in
    ap (λ x. x * n + c.nearest_level.result) c.loop-value.invariant ∙ ap (λ x. ink_of n at i * n + x) here

pub overflow_add-ink : goal.overflow_add-ink
overflow_add-ink g c =
    let s = c.args.self.now in
    let u = map limited c.args.wanted.now in
    let within : c.loop-value.value-index < g.T.Tone.count = omega (arith, c.loop-value-test.true, c.requires) in
    omega (
      arith,
      next g c,
      so_far s.even (λ i. level (gap_of s.steps) (get_or u i (pos 0))) (choice_below s.sound s.steps s.even u) c.loop-value.value-index within,
    )

pub loop-value-preserved : goal.loop-value-preserved
loop-value-preserved g c = rw (add-one c.loop-value.value-index) (next g c)
