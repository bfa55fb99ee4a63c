-- Each channel's nearest level makes the nearest ink.
use Rattle.std.proofs.Common.{◌≡◌, ℕ, zero, suc, ◌+◌, ◌-◌, ◌*◌, ◌/◌, ◌%◌, ◌^◌, ◌<◌, ◌≤◌, min, List, get_or, ℤ, pos, negsuc, ◌-ℤ◌, nat_abs, sym, ap, ◌∙◌, ⊎_elim, inl, inr, ◌⊎◌, refl, mul-le-mul_right, add-mul, arith}
use Rattle.std.proofs.Math.Nat.{div-div-eq-div-mul, div-eq_of_lt, div-one, one-le-pow, pow-suc, pow-succ', pow-zero}
use Rattle.std.proofs.lemmas.Nat.{div-add-mod', div_below, mod_below}
use Rattle.std.proofs.lemmas.Bool.{cases_eq, cases_lt}
use Rattle.ink.specs.Inks.{Inks}
use Rattle.ink.specs.LevelFacts.{EvenSteps, Kind, Steps, choice_below, even, level_high, level_in_ink, level_last, level_low, level_tone, level_zero, value_at}
use Rattle.ink.specs.LevelRules.{gap_of, ink_of, level, level_in, level_values, levels_choice}
use Rattle.ink.specs.Levels.{levels}
use Rattle.ink.specs.Nearness.{Nearest, distance, ink_distance, squared}
use Rattle.ink.proofs.Apart.{abs_neg, abs_pos, squared_lt}

-- a number less by one is less by a gap, counted in gaps
gaps : (i k gap : ℕ) → i < k → i * gap + gap ≤ k * gap
gaps i k gap l =
    let e : (i + 1) * gap ≡ i * gap + 1 * gap = add-mul i 1 gap in
    let m : (i + 1) * gap ≤ k * gap = mul-le-mul_right gap (omega arith) in
    omega arith

module _ (n gap : ℕ) (ok : EvenSteps n gap) where
  -- the tone of a level is a byte, and only the last is 255
  pub tone_below : (i : ℕ) → i < n → i * gap ≤ 255
  tone_below i p =
      let m : i * gap ≤ (n - 1) * gap = mul-le-mul_right gap (omega arith) in
      omega (arith, ok.whole)

  other_than_last : (i k : ℕ) → i < n → (i ≡ k → ⊥) → 255 ≤ k * gap → k * gap ≤ 255 → i * gap < 255
  other_than_last i k p ne last most =
      let top = tone_below i p in
      let odd = ok.odd in
      ⊎_elim
      (λ l. let g = gaps k i gap l in omega arith)
      (λ m. let g = gaps i k gap (omega arith) in omega arith)
      (cases_lt k i)

  -- any other level is farther away, at a value x of 0..255 and past either end
  farther_inside : (x i k : ℕ) → k ≡ (x + gap / 2) / gap → (i ≡ k → ⊥) → (x - k * gap) + (k * gap - x) < (x - i * gap) + (i * gap - x)
  farther_inside x i k e ne =
      let low : k * gap ≤ x + gap / 2 = rw e (level_low n gap ok x) in
      let high : x + gap / 2 < k * gap + gap = rw e (level_high n gap ok x) in
      let odd = ok.odd in
      ⊎_elim
      (λ l. let g = gaps i k gap l in omega arith)
      (λ m. let g = gaps k i gap (omega arith) in omega arith)
      (cases_lt i k)

  pub farther : (v : ℤ) (i : ℕ) → i < n → (i ≡ level gap v → ⊥) → nat_abs (v -ℤ pos (level gap v * gap)) < nat_abs (v -ℤ pos (i * gap))
  farther (pos x) i p ne =
      let k = level gap (pos x) in
      let here = abs_pos x (k * gap) in
      let there = abs_pos x (i * gap) in
      ⊎_elim
      (λ l.
      let m : min x 255 ≡ 255 = omega arith in
      let last : 255 ≤ k * gap = rw m (level_last n gap ok) in
      let top : i * gap ≤ 255 = tone_below i p in
      let most : k * gap ≤ 255 = level_tone n gap ok (pos x) in
      let less : i * gap < 255 = other_than_last i k p ne last most in
      omega arith)
      (λ l.
      let m : min x 255 ≡ x = omega arith in
      let f = farther_inside x i k (ap (λ y. (y + gap / 2) / gap) m) ne in
      omega arith)
      (cases_lt 255 x)
  farther (negsuc x) i p ne =
      let k = level gap (negsuc x) in
      let here = abs_neg x (k * gap) in
      let there = abs_neg x (i * gap) in
      let none : k * gap ≡ 0 = level_zero n gap ok in
      let odd = ok.odd in
      ⊎_elim
      (λ l. let g = gaps i k gap l in omega arith)
      (λ m. let g = gaps k i gap (omega arith) in omega arith)
      (cases_lt i k)

-- an ink that every other is farther than
alone : {T : Type 0} (m : Inks T) (u : List ℤ) (k : ℕ) → k < m.number
    → ((j : ℕ) → j < m.number → (j ≡ k → ⊥) → ink_distance m u k < ink_distance m u j) → Nearest m u k
alone m u k p lt = record {
  one_of = p;
  no_nearer = λ j q. ⊎_elim (λ e. omega (arith, ap (λ x. ink_distance m u x) e)) (λ ne. omega (arith, lt j q ne)) (cases_eq j k);
  first = λ j l. lt j (omega arith) (λ e. omega arith);
}

-- the levels of an ink make its number
module _ (n c k : ℕ) (two : 2 ≤ n) (p : k < n ^ c) where
  pub level_in_below : (i : ℕ) → i < c → level_in n c k i < n
  level_in_below zero q =
      let e : suc (c - 1) ≡ c = omega arith in
      let some : 0 < n ^ (c - 1) = one-le-pow (c - 1) n (omega arith) in
      div_below k (n ^ (c - 1)) n some (rw (← pow-succ' n (c - 1), e) p)
  level_in_below (suc i) q = mod_below (k / n ^ (c - 1 - suc i)) n (omega arith)

  front : (j : ℕ) → j ≤ c → ink_of n (level_in n c k) j ≡ k / n ^ (c - j)
  front zero q =
      let e : c - 0 ≡ c = omega arith in
      sym (ap (λ x. k / n ^ x) e ∙ div-eq_of_lt p)
  front (suc zero) q = omega arith
  front (suc (suc j)) q =
      let m = c - 1 - suc j in
      let e : c - suc j ≡ suc m = omega arith in
      let f : m ≡ c - suc (suc j) = omega arith in
      ap (λ x. x * n + k / n ^ m % n)
      (front (suc j) (omega arith) ∙ (ap (λ x. k / n ^ x) e ∙ (ap (λ x. k / x) (pow-suc n m) ∙ sym (div-div-eq-div-mul k (n ^ m) n))))
      ∙ (div-add-mod' (k / n ^ m) n ∙ ap (λ x. k / n ^ x) f)

  pub number_of_levels : ink_of n (level_in n c k) c ≡ k
  number_of_levels =
      let e : c - c ≡ 0 = omega arith in
      front c (omega arith) ∙ (ap (λ x. k / n ^ x) e ∙ (ap (λ x. k / x) (pow-zero n) ∙ div-one k))

same_ink : (n : ℕ) (f g : ℕ → ℕ) (c : ℕ) → ((i : ℕ) → i < c → f i ≡ g i) → ink_of n f c ≡ ink_of n g c
same_ink n f g zero e = refl
same_ink n f g (suc c) e = ap (λ x. x * n + f c) (same_ink n f g c (λ i p. e i (omega arith))) ∙ ap (λ x. ink_of n g c * n + x) (e c (omega arith))

module _ {T : Type 0} {count : ℕ} {value : T → ℕ → ℕ} {made : List ℕ → T} (kind : Kind count value made) (n : ℕ) (s : Steps count n)
    (u : List ℤ) (j : ℕ) (p : j < n ^ count) where
  abbrev at : ℕ → ℕ
  at i = level (gap_of n) (get_or u i (pos 0))

  abbrev chosen : T
  chosen = made (level_values n count (levels_choice n count u))

  abbrev other : T
  other = made (level_values n count j)

  value_chosen : (i : ℕ) → i < count → value chosen i ≡ at i * gap_of n
  value_chosen i q =
      value_at kind n s (levels_choice n count u) i (at i) q (level_in_ink n at (choice_below kind n s u) count i q)
      (level_tone n (gap_of n) (even s) (get_or u i (pos 0)))

  value_other : (i : ℕ) → i < count → value other i ≡ level_in n count j i * gap_of n
  value_other i q =
      value_at kind n s j i (level_in n count j i) q refl
      (tone_below n (gap_of n) (even s) (level_in n count j i) (level_in_below n count j s.two p i q))

  -- where the other ink has another level, it is farther
  channel : (i : ℕ) → i < count → (level_in n count j i ≡ at i → ⊥)
      → squared (get_or u i (pos 0) -ℤ pos (value chosen i)) < squared (get_or u i (pos 0) -ℤ pos (value other i))
  channel i q ne =
      rw (value_chosen i q, value_other i q)
      (squared_lt (get_or u i (pos 0) -ℤ pos (at i * gap_of n)) (get_or u i (pos 0) -ℤ pos (level_in n count j i * gap_of n))
      (farther n (gap_of n) (even s) (get_or u i (pos 0)) (level_in n count j i) (level_in_below n count j s.two p i q) ne))

  -- over the first i channels the other ink is no nearer, and farther unless it has the chosen levels there
  summed : (i : ℕ) → i ≤ count
      → (distance i value u chosen ≤ distance i value u other)
      × (((h : ℕ) → h < i → level_in n count j h ≡ at h) ⊎ (distance i value u chosen < distance i value u other))
  summed zero q = (omega arith, inl (λ h l. absurd (omega arith)))
  summed (suc i) q =
      let before = summed i (omega arith) in
      ⊎_elim
      (λ e.
      let same : value chosen i ≡ value other i = value_chosen i q ∙ (ap (λ x. x * gap_of n) (sym e) ∙ sym (value_other i q)) in
      let as_far = ap (λ y. squared (get_or u i (pos 0) -ℤ pos y)) same in (
        omega (arith, before.0, as_far),
        ⊎_elim
            (λ all. inl (λ h l. ⊎_elim (λ z. rw z e) (λ nz. all h (omega arith)) (cases_eq h i)))
            (λ lt. inr (omega (arith, as_far))) before.1,
      ))
      (λ ne. let far = channel i q ne in (omega (arith, before.0), inr (omega (arith, before.0))))
      (cases_eq (level_in n count j i) (at i))

  pub farther_ink : (j ≡ levels_choice n count u → ⊥) → distance count value u chosen < distance count value u other
  farther_ink ne =
      ⊎_elim
      (λ all. absurd (ne (sym (number_of_levels n count j s.two p) ∙ same_ink n (level_in n count j) at count all)))
      (λ lt. lt) (summed count (omega arith)).1

pub levels_nearest : {T : Type 0} {count : ℕ} {value : T → ℕ → ℕ} {made : List ℕ → T} (kind : Kind count value made) (n : ℕ) (s : Steps count n)
    (u : List ℤ) → Nearest (levels kind n s) u (levels_choice n count u)
levels_nearest {count = count} kind n s u =
    alone (levels kind n s) u (levels_choice n count u) ((levels kind n s).below u) (λ j p ne. farther_ink kind n s u j p ne)
