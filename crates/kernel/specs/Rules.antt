-- The rules of a kernel, as a test that computes.
use Rattle.std.specs.Prelude.{ℕ, suc, Bool, cond, ◌&&◌, ◌||◌, List, [], ◌∷◌, length, sum_by, ℤ, pos, neg_ℤ, Some, None, Option, ◌==◌, int_le, int_lt, nat_le, nat_lt}
use Rattle.std.specs.Option.{is_none}
use Rattle.kernel.specs.declared.tap.Tap.{Tap}

-- The limits are written out, and not read from the constants of the code: so a wrong constant is refused.

-- how many rows down, and how many columns to either side, a tap may reach
abbrev pub rows_down : ℕ
rows_down = 2

abbrev pub columns_aside : ℕ
columns_aside = 2

abbrev pub most_taps : ℕ
most_taps = 12

abbrev pub most_divisor : ℕ
most_divisor = 256

-- a divisor and taps, whether or not they keep the rules
pub record Shape : Type 0 where
  pub divisor : ℕ
  pub taps : List Tap

abbrev pub shape : ℕ → List Tap → Shape
shape d ts = record { divisor = d; taps = ts }

abbrev pub tap : ℕ → ℤ → ℕ → Tap
tap d a w = record { down = d; ahead = a; weight = w }

-- a tap by itself: its reach, ahead of the sending cell where it stays in the row, and some weight
abbrev pub fits : Tap → Bool
fits t =
    nat_le t.down rows_down
    && (int_le (neg_ℤ (pos columns_aside)) t.ahead
    && (int_le t.ahead (pos columns_aside)
    && ((nat_lt 0 t.down || int_le (pos 1) t.ahead)
    && nat_le 1 t.weight)))

-- t comes after s: further down, or in the same row further ahead
abbrev pub rises : Tap → Tap → Bool
rises s t = nat_lt s.down t.down || (s.down == t.down && int_lt s.ahead t.ahead)

-- the sending cell's own place, which the first tap comes after
abbrev pub origin : Tap
origin = tap 0 (pos 0) 0

-- the index, counted from i, of the first tap that breaks a rule by itself or does not come after the tap just before it
abbrev pub first_bad : Tap → ℕ → List Tap → Option ℕ
first_bad before i [] = None
first_bad before i (t ∷ ts) = cond (fits t && rises before t) (first_bad t (suc i) ts) (Some i)

-- the sum of a quantity over the taps
abbrev pub over : (Tap → ℕ) → List Tap → ℕ
over f ts = sum_by f ts

-- W, the sum of the weights
abbrev pub weights : List Tap → ℕ
weights ts = over (λ t. t.weight) ts

abbrev pub divisor_fits : ℕ → Bool
divisor_fits d = nat_le 1 d && nat_le d most_divisor

abbrev pub count_fits : ℕ → Bool
count_fits n = nat_le 1 n && nat_le n most_taps

-- all the rules together
abbrev pub valid : Shape → Bool
valid s =
    divisor_fits s.divisor
    && (count_fits (length s.taps)
    && (is_none (first_bad origin 0 s.taps)
    && nat_le (weights s.taps) s.divisor))
