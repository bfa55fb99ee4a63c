-- A set of inks in a list of tones.
use Rattle.std.specs.Prelude.{◌≡◌, ℕ, ◌+◌, ◌<◌, ◌≤◌, max, cond, List, [], ◌∷◌, length, Some, None, Option, nat_lt, slice_index_or}
use Rattle.std.proofs.Common.{arith}
use Rattle.std.proofs.lemmas.Bool.{cond_both}
use Rattle.ink.specs.Inks.{Inks}
use Rattle.ink.specs.Nearness.{distance}

-- the number of the nearest tone, where `best` is the nearest so far, at the distance `least`, and the tones from
-- number i on are still to be looked at; a tone replaces it only if it is nearer
abbrev pub seek : {T : Type 0} → (T → ℕ) → ℕ → ℕ → ℕ → List T → ℕ
seek far best least i [] = best
seek far best least i (t ∷ ts) = cond (nat_lt (far t) least) (seek far i (far t) (i + 1) ts) (seek far best least (i + 1) ts)

abbrev pub nearest_of : {T : Type 0} → (T → ℕ) → List T → ℕ
nearest_of far [] = 0
nearest_of far (t ∷ ts) = seek far 0 (far t) 1 ts

seek_below : {T : Type 0} (far : T → ℕ) (best least i : ℕ) (ts : List T) → best < i → seek far best least i ts < i + length ts
seek_below far best least i [] p = omega arith
seek_below far best least i (t ∷ ts) p =
    cond_both (nat_lt (far t) least) (seek far i (far t) (i + 1) ts) (seek far best least (i + 1) ts) (λ k. k < i + length (t ∷ ts))
    (λ e. omega (arith, seek_below far i (far t) (i + 1) ts (omega arith)))
    (λ e. omega (arith, seek_below far best least (i + 1) ts (omega arith)))

pub nearest_below : {T : Type 0} (far : T → ℕ) (ts : List T) → nearest_of far ts < max 1 (length ts)
nearest_below far [] = omega arith
nearest_below far (t ∷ ts) = omega (arith, seek_below far 0 (far t) 1 ts (omega arith))

pub never : (e : ℕ) → ◌≡◌ {A = Option ℕ} None (Some e) → ⊥
never e p = cc

-- the set of at most 256 tones; an empty list acts as one ink whose tone is made of zeros
abbrev pub ink_list : {T : Type 0} (count : ℕ) (value : T → ℕ → ℕ) (made : List ℕ → T) (ts : List T) → length ts ≤ 256 → Inks T
ink_list count value made ts few = record {
  channels = count;
  value = value;
  number = max 1 (length ts);
  tone = λ k. slice_index_or ts k (made (0 ∷ 0 ∷ 0 ∷ []));
  choice = λ u. nearest_of (distance count value u) ts;
  spread = None;
  some = omega arith;
  few = omega arith;
  below = λ u. nearest_below (distance count value u) ts;
  bounded = λ e s. absurd (never e s);
  close = λ u e long s. absurd (never e s);
}
