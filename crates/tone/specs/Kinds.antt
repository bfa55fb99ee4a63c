-- What the two kinds of tone mean: the value of each channel, and the tone made of channel values.
use Rattle.std.specs.Prelude.{List, ℕ, zero, suc, ◌≤◌, min, get_or}
use Rattle.std.proofs.Common.{arith}
use Rattle.tone.specs.declared.kinds.Colour.{Colour}
use Rattle.tone.specs.declared.kinds.Grey.{Grey}

-- a number that is no byte counts as 255; code never has one
abbrev pub cut : ℕ → ℕ
cut n = min n 255

pub cut_fits : (n : ℕ) → cut n ≤ 255
cut_fits n = omega arith

abbrev pub grey_value : Grey → ℕ → ℕ
grey_value t zero = t.light
grey_value t (suc i) = 0

abbrev pub grey_made : List ℕ → Grey
grey_made v = record { light = cut (get_or v 0 0); byte = cut_fits (get_or v 0 0) }

abbrev pub colour_value : Colour → ℕ → ℕ
colour_value t zero = t.red
colour_value t (suc zero) = t.green
colour_value t (suc (suc zero)) = t.blue
colour_value t (suc (suc (suc i))) = 0

abbrev pub colour_made : List ℕ → Colour
colour_made v = record {
  red = cut (get_or v 0 0);
  green = cut (get_or v 1 0);
  blue = cut (get_or v 2 0);
  bytes = (cut_fits (get_or v 0 0), cut_fits (get_or v 1 0), cut_fits (get_or v 2 0));
}
