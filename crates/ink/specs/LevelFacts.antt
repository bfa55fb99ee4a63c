-- Facts on levels that the meaning of a set carries: each ink has its levels, and the nearest level is within half a gap.
use Rattle.std.specs.Prelude.{◌≡◌, ℕ, zero, suc, ◌+◌, ◌-◌, ◌*◌, ◌/◌, ◌%◌, ◌^◌, ◌<◌, ◌≤◌, min, Bool, true, ◌&&◌, List, [], ◌∷◌, ℤ, pos, negsuc, ◌+ℤ◌, neg_ℤ, ◌≤ℤ◌, Some, Option, ◌==◌, nat_le, slice_index, slice_index_or, refl}
use Rattle.std.proofs.Common.{⊎_elim, sym, ap, ◌∙◌, add-mul, mul-le-mul_right, zero-mul, mul_assoc, arith}
use Rattle.std.proofs.Math.Nat.{div-div-eq-div-mul, div-one, pow-succ', pow-zero, suc-add, zero-add}
use Rattle.std.proofs.lemmas.Nat.{div-add-mod', div_below, div-mul-add, le-div, mod_below, mod-mul-add, mul-add-lt}
use Rattle.std.proofs.lemmas.Int.{ints}
use Rattle.std.proofs.lemmas.Bool.{and_parts, cases_eq, cases_lt, cond-true, eqb-true, leb-true, lt-ltb, or_cases}
use Rattle.std.specs.List.{list_all, list_any}
use Rattle.tone.specs.Channels.{channels_of}
use Rattle.ink.specs.Inks.{Around, Within}
use Rattle.ink.specs.LevelRules.{colour_steps, cut_to_byte, gap_of, grey_steps, ink_of, level, level_in, level_values, levels_choice}

-- What is asked of a kind of tone: three channels at most, and a tone has the channel values that it is made of.
pub record Kind {T : Type 0} (count : ℕ) (value : T → ℕ → ℕ) (made : List ℕ → T) : Type 0 where
  pub few : count ≤ 3
  pub gives : (v : List ℕ) (i : ℕ) → i < count → slice_index v i ≤ 255 → value (made v) i ≡ slice_index v i

-- What is asked of a number of steps: 256 inks at most, and equal gaps from 0 to 255.
pub record Steps (count n : ℕ) : Type 0 where
  pub two : 2 ≤ n
  pub few : n ^ count ≤ 256
  pub whole : (n - 1) * gap_of n ≡ 255

-- n levels divide 0..255 into equal gaps, and each gap is odd, so that no value is half way between two levels
pub record EvenSteps (n gap : ℕ) : Type 0 where
  pub two : 2 ≤ n
  pub whole : (n - 1) * gap ≡ 255
  pub odd : gap ≡ 2 * (gap / 2) + 1

-- what divides 255 is odd
odd_gap : (m gap : ℕ) → m * gap ≡ 255 → gap ≡ 2 * (gap / 2) + 1
odd_gap m gap e =
    ⊎_elim
    (λ z.
    let half : gap ≡ gap / 2 * 2 = omega (arith, div-add-mod' gap 2) in
    let twice : m * gap ≡ m * (gap / 2) * 2 = ap (λ x. m * x) half ∙ sym (mul_assoc m (gap / 2) 2) in
    absurd (omega arith))
    (λ ne. omega (arith, div-add-mod' gap 2, mod_below gap 2 (omega arith)))
    (cases_eq (gap % 2) 0)

pub even : {count n : ℕ} → Steps count n → EvenSteps n (gap_of n)
even {count} {n} s = record { two = s.two; whole = s.whole; odd = odd_gap (n - 1) (gap_of n) s.whole }

pub gap_small : {count n : ℕ} → Steps count n → gap_of n ≤ 255
gap_small {count} {n} s =
    let one : 1 ≤ n - 1 = omega (arith, s.two) in
    omega (arith, mul-le-mul_right (gap_of n) one, s.whole)

module _ (n gap : ℕ) (ok : EvenSteps n gap) where
  -- n gaps are one more than 255 needs
  pub all_gaps : n * gap ≡ 255 + gap
  all_gaps =
      let m : (n - 1) + 1 ≡ n = omega (arith, ok.two) in
      let e : ((n - 1) + 1) * gap ≡ (n - 1) * gap + 1 * gap = add-mul (n - 1) 1 gap in
      let f : n * gap ≡ (n - 1) * gap + 1 * gap = rw m at e in
      omega (arith, ok.whole)

  -- the level of x is at most half a gap from x
  pub level_low : (x : ℕ) → (x + gap / 2) / gap * gap ≤ x + gap / 2
  level_low x = omega (arith, div-add-mod' (x + gap / 2) gap)

  pub level_high : (x : ℕ) → x + gap / 2 < (x + gap / 2) / gap * gap + gap
  level_high x = omega (arith, div-add-mod' (x + gap / 2) gap, mod_below (x + gap / 2) gap (omega (arith, ok.odd)))

  pub level_last : 255 ≤ (255 + gap / 2) / gap * gap
  level_last =
      let l : n - 1 ≤ (255 + gap / 2) / gap = le-div (n - 1) (255 + gap / 2) gap (omega (arith, ok.odd)) (omega (arith, ok.whole)) in
      omega (arith, mul-le-mul_right gap l, ok.whole)

  pub level_zero : (0 + gap / 2) / gap * gap ≡ 0
  level_zero =
      let l : (0 + gap / 2) / gap < 1 = div_below (0 + gap / 2) gap 1 (omega (arith, ok.odd)) (omega (arith, ok.odd)) in
      let z : (0 + gap / 2) / gap ≡ 0 = omega arith in
      ap (λ k. k * gap) z ∙ zero-mul gap

  cut_below : (v : ℤ) → cut_to_byte v ≤ 255
  cut_below (pos x) = omega arith
  cut_below (negsuc x) = omega arith

  pub level_below : (v : ℤ) → level gap v < n
  level_below v = div_below (cut_to_byte v + gap / 2) gap n (omega (arith, ok.odd)) (omega (arith, all_gaps, cut_below v, ok.odd))

  pub level_tone : (v : ℤ) → level gap v * gap ≤ 255
  level_tone v =
      let l : level gap v ≤ n - 1 = omega (arith, level_below v) in
      omega (arith, mul-le-mul_right gap l, ok.whole)

  -- a value that lies in -e..255 + e, for half a gap e, is within e of its level
  pub level_close : (v : ℤ) → neg_ℤ (pos (gap / 2)) ≤ℤ v → v ≤ℤ pos (255 + gap / 2)
      → (pos (level gap v * gap) ≤ℤ (v +ℤ pos (gap / 2))) × (v ≤ℤ pos (level gap v * gap + gap / 2))
  level_close (pos x) p q =
      ⊎_elim
      (λ l.
      let m : min x 255 ≡ 255 = omega arith in
      let low : (min x 255 + gap / 2) / gap * gap ≤ 255 + gap / 2 = rw m (level_low 255) in
      let last : 255 ≤ (min x 255 + gap / 2) / gap * gap = rw m level_last in
      (omega (arith, ints), omega (arith, ints)))
      (λ l.
      let m : min x 255 ≡ x = omega arith in
      let low : (min x 255 + gap / 2) / gap * gap ≤ x + gap / 2 = rw m (level_low x) in
      let high : x + gap / 2 < (min x 255 + gap / 2) / gap * gap + gap = rw m (level_high x) in
      let odd = ok.odd in
      (omega (arith, ints), omega (arith, ints)))
      (cases_lt 255 x)
  level_close (negsuc x) p q =
      let zero-level : (0 + gap / 2) / gap * gap ≡ 0 = level_zero in
      (omega (arith, ints), omega (arith, ints))

-- An ink has the levels that its number is made of.
module _ (n : ℕ) (at : ℕ → ℕ) (below : (i : ℕ) → at i < n) where
  pub ink_below : (c : ℕ) → ink_of n at c < n ^ c
  ink_below zero = rw (pow-zero n) (omega arith)
  ink_below (suc c) = rw (pow-succ' n c) (mul-add-lt (ink_of n at c) n (at c) (n ^ c) (ink_below c) (below c))

  -- the number without its last j digits
  ink_high : (c j : ℕ) → ink_of n at (j + c) / n ^ j ≡ ink_of n at c
  ink_high c zero = rw (zero-add c, pow-zero n) (div-one (ink_of n at c))
  ink_high c (suc j) =
      rw (suc-add j c)
      (ap (λ x. (ink_of n at (j + c) * n + at (j + c)) / x) (pow-succ' n j)
      ∙ (sym (div-div-eq-div-mul (ink_of n at (j + c) * n + at (j + c)) n (n ^ j))
      ∙ (ap (λ x. x / n ^ j) (div-mul-add (ink_of n at (j + c)) n (at (j + c)) (below (j + c))) ∙ ink_high c j)))

  ink_from : (c i j : ℕ) → j + suc i ≡ c → ink_of n at c / n ^ j ≡ ink_of n at i * n + at i
  ink_from c i j e = rw (sym e) (ink_high (suc i) j)

  pub level_in_ink : (c i : ℕ) → i < c → level_in n c (ink_of n at c) i ≡ at i
  level_in_ink c zero p = ink_from c 0 (c - 1) (omega arith) ∙ omega arith
  level_in_ink c (suc i) p =
      ap (λ x. x % n) (ink_from c (suc i) (c - 1 - suc i) (omega arith)) ∙ mod-mul-add (ink_of n at (suc i)) n (at (suc i)) (below (suc i))

pub channels_at : (c : ℕ) (f : ℕ → ℕ) (i : ℕ) → i < c → c ≤ 3 → slice_index (channels_of c f) i ≡ f i
channels_at c f zero p q = cond-true _ (f 0) 0 (lt-ltb 0 c p)
channels_at c f (suc zero) p q = cond-true _ (f 1) 0 (lt-ltb 1 c p)
channels_at c f (suc (suc zero)) p q = cond-true _ (f 2) 0 (lt-ltb 2 c p)
channels_at c f (suc (suc (suc i))) p q = absurd (omega arith)

module _ {T : Type 0} {count : ℕ} {value : T → ℕ → ℕ} {made : List ℕ → T} (kind : Kind count value made) (n : ℕ) (s : Steps count n) where
  -- the value of a channel, where the ink has the level x there
  pub value_at : (k i x : ℕ) → i < count → level_in n count k i ≡ x → x * gap_of n ≤ 255 → value (made (level_values n count k)) i ≡ x * gap_of n
  value_at k i x p e small =
      let v : slice_index (level_values n count k) i ≡ x * gap_of n =
      channels_at count (λ i. level_in n count k i * gap_of n) i p kind.few ∙ ap (λ y. y * gap_of n) e in
      kind.gives (level_values n count k) i p (rw v small) ∙ v

  pub choice_below : (u : List ℤ) (i : ℕ) → level (gap_of n) (slice_index_or u i (pos 0)) < n
  choice_below u i = level_below n (gap_of n) (even s) (slice_index_or u i (pos 0))

  -- each channel of the ink chosen is within half a gap
  pub choice_close : (u : List ℤ) → ((i : ℕ) → i < count → Around (gap_of n / 2) u i)
      → (i : ℕ) → i < count → Within (gap_of n / 2) u i (value (made (level_values n count (levels_choice n count u))) i)
  choice_close u around i p =
      let v = slice_index_or u i (pos 0) in
      rw (value_at (levels_choice n count u) i (level (gap_of n) v) p
      (level_in_ink n (λ i. level (gap_of n) (slice_index_or u i (pos 0))) (choice_below u) count i p) (level_tone n (gap_of n) (even s) v))
      (level_close n (gap_of n) (even s) v (around i p).0 (around i p).1)

pub some_is : (a b : ℕ) → ◌≡◌ {A = Option ℕ} (Some a) (Some b) → a ≡ b
some_is a b e = cc

-- What holds of each number of steps in the lists, computed there.

listed : (f : ℕ → Bool) (n : ℕ) (xs : List ℕ) → list_all f xs ≡ true → list_any (λ x. n == x) xs ≡ true → f n ≡ true
listed f n [] a e = cc
listed f n (x ∷ xs) a e =
    let p = and_parts (f x) (list_all f xs) a in
    ⊎_elim (λ h. ap f (eqb-true n x h) ∙ p.0) (λ h. listed f n xs p.1 h) (or_cases (n == x) (list_any (λ x. n == x) xs) e)

abbrev steps_test : ℕ → ℕ → Bool
steps_test count n = nat_le 2 n && (nat_le (n ^ count) 256 && (n - 1) * gap_of n == 255)

steps_of : (count n : ℕ) → steps_test count n ≡ true → Steps count n
steps_of count n t =
    let p = and_parts (nat_le 2 n) _ t in
    let q = and_parts (nat_le (n ^ count) 256) _ p.1 in
    record { two = leb-true 2 n p.0; few = leb-true (n ^ count) 256 q.0; whole = eqb-true _ 255 q.1 }

pub grey_facts : (n : ℕ) → grey_steps n ≡ true → Steps 1 n
grey_facts n e = steps_of 1 n (listed (steps_test 1) n (2 ∷ 4 ∷ 6 ∷ 16 ∷ 18 ∷ 52 ∷ 86 ∷ 256 ∷ []) refl e)

pub colour_facts : (n : ℕ) → colour_steps n ≡ true → Steps 3 n
colour_facts n e = steps_of 3 n (listed (steps_test 3) n (2 ∷ 4 ∷ 6 ∷ []) refl e)
