-- Sets of levels: n equal steps from 0 to 255 in each channel. Which inks there are, and which one is chosen.
use Rattle.std.specs.Prelude.{ℕ, zero, suc, ◌+◌, ◌-◌, ◌*◌, ◌/◌, ◌%◌, ◌^◌, min, Bool, List, [], ◌∷◌, ℤ, pos, negsuc, Some, Option, ◌==◌, slice_index_or}
use Rattle.std.specs.List.{list_any}
use Rattle.tone.specs.Channels.{channels_of}

-- the numbers of steps that there are sets for
abbrev pub grey_steps : ℕ → Bool
grey_steps n = list_any (λ x. n == x) (2 ∷ 4 ∷ 6 ∷ 16 ∷ 18 ∷ 52 ∷ 86 ∷ 256 ∷ [])

abbrev pub colour_steps : ℕ → Bool
colour_steps n = list_any (λ x. n == x) (2 ∷ 4 ∷ 6 ∷ [])

-- a value cut to 0..255
abbrev pub cut_to_byte : ℤ → ℕ
cut_to_byte (pos x) = min x 255
cut_to_byte (negsuc x) = 0

-- the distance between two levels, where there are n
abbrev pub gap_of : ℕ → ℕ
gap_of n = 255 / (n - 1)

-- the index of the level nearest to a value: the value cut to 0..255, divided by the gap and rounded
abbrev pub level : ℕ → ℤ → ℕ
level gap v = (cut_to_byte v + gap / 2) / gap

-- the ink that has the level `at i` in each channel i, of which there are c: the levels are the digits of its number in
-- base n, so that of three channels ink (r * n + g) * n + b has the levels r, g and b
abbrev pub ink_of : ℕ → (ℕ → ℕ) → ℕ → ℕ
ink_of n at zero = 0
ink_of n at (suc c) = ink_of n at c * n + at c

-- the level of ink k in each channel
abbrev pub level_in : ℕ → ℕ → ℕ → ℕ → ℕ
level_in n c k zero = k / n ^ (c - 1)
level_in n c k (suc i) = k / n ^ (c - 1 - suc i) % n

-- the channel values of an ink
abbrev pub level_values : ℕ → ℕ → ℕ → List ℕ
level_values n c k = channels_of c (λ i. level_in n c k i * gap_of n)

-- the ink chosen: each channel takes its nearest level
abbrev pub levels_choice : ℕ → ℕ → List ℤ → ℕ
levels_choice n c u = ink_of n (λ i. level (gap_of n) (slice_index_or u i (pos 0))) c

-- half a gap, rounded down
abbrev pub levels_spread : ℕ → Option ℕ
levels_spread n = Some (gap_of n / 2)
