-- What sets of levels mean.
use Rattle.std.specs.Prelude.{◌≡◌, ℕ, zero, suc, ◌/◌, ◌^◌, ◌<◌, List, true, ◌≤◌, slice_index}
use Rattle.std.proofs.Common.{arith}
use Rattle.std.proofs.Math.Nat.{one-le-pow}
use Rattle.tone.specs.Kinds.{colour_made, colour_value, grey_made, grey_value}
use Rattle.tone.specs.declared.kinds.Colour.{Colour}
use Rattle.tone.specs.declared.kinds.Grey.{Grey}
use Rattle.ink.specs.Inks.{Inks}
use Rattle.ink.specs.LevelFacts.{Kind, Steps, choice_below, choice_close, colour_facts, gap_small, grey_facts, ink_below, some_is}
use Rattle.ink.specs.LevelRules.{colour_steps, gap_of, grey_steps, level_values, levels_choice, levels_spread}

-- n levels in each channel, for any kind of tone
abbrev pub levels : {T : Type 0} {count : ℕ} {value : T → ℕ → ℕ} {made : List ℕ → T} → Kind count value made → (n : ℕ) → Steps count n → Inks T
levels {T} {count} {value} {made} kind n s = record {
  channels = count;
  value = value;
  number = n ^ count;
  tone = λ k. made (level_values n count k);
  choice = levels_choice n count;
  spread = levels_spread n;
  some = one-le-pow count n (omega (arith, s.two));
  few = s.few;
  below = λ u. ink_below n _ (choice_below kind n s u) count;
  bounded = λ e q. omega (arith, some_is (gap_of n / 2) e q, gap_small s);
  close = λ u e long q. rw (← some_is (gap_of n / 2) e q) (choice_close kind n s u);
}

pub grey_kind : Kind 1 grey_value grey_made
grey_kind = record { few = omega arith; gives = grey_gives }
  where
    grey_gives : (v : List ℕ) (i : ℕ) → i < 1 → slice_index v i ≤ 255 → grey_value (grey_made v) i ≡ slice_index v i
    grey_gives v zero p q = omega arith
    grey_gives v (suc i) p q = absurd (omega arith)

pub colour_kind : Kind 3 colour_value colour_made
colour_kind = record { few = omega arith; gives = colour_gives }
  where
    colour_gives : (v : List ℕ) (i : ℕ) → i < 3 → slice_index v i ≤ 255 → colour_value (colour_made v) i ≡ slice_index v i
    colour_gives v zero p q = omega arith
    colour_gives v (suc zero) p q = omega arith
    colour_gives v (suc (suc zero)) p q = omega arith
    colour_gives v (suc (suc (suc i))) p q = absurd (omega arith)

-- the sets for the two kinds of tone
abbrev pub grey_levels : (n : ℕ) → grey_steps n ≡ true → Inks Grey
grey_levels n ok = levels grey_kind n (grey_facts n ok)

abbrev pub colour_levels : (n : ℕ) → colour_steps n ≡ true → Inks Colour
colour_levels n ok = levels colour_kind n (colour_facts n ok)
