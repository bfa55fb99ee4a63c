-- A page as text.
use Rattle.std.specs.Prelude.{ℕ, zero, suc, ◌+◌, ◌*◌, ◌/◌, min, List, [], ◌∷◌, ◌++◌, map, Ok, Err, codes, Result, slice_index}
use Rattle.std.specs.List.{range_with_len, flat_map}
use Rattle.source.specs.Faults.{Told}
use Rattle.source.specs.Pages.{Page, answer}

-- marks from dark to light
abbrev pub marks : List ℕ
marks = codes "@%#*+=-:. "

-- f 0 + .. + f (n - 1)
abbrev pub channel_sum : ℕ → (ℕ → ℕ) → ℕ
channel_sum zero f = 0
channel_sum (suc n) f = channel_sum n f + f n

-- the mark of a tone with n channels, by the mean of their values
abbrev pub mark_of : ℕ → (ℕ → ℕ) → ℕ
mark_of n f = slice_index marks (channel_sum n f / n * 10 / 256)

module _ {T : Type 0} (n : ℕ) (value : T → ℕ → ℕ) where
  -- the mark of what a source answers; '?' where there is no tone
  abbrev pub mark_told : Result T Told → ℕ
  mark_told (Ok t) = mark_of n (value t)
  mark_told (Err f) = 63

  -- the marks of a row, at most 72 of them, and LF
  abbrev pub row_text : Page T → ℕ → List ℕ
  row_text p r = map (λ c. mark_told (answer p r c)) (range_with_len 0 (min p.width 72)) ++ 10 ∷ []

  -- at most 20 rows
  abbrev pub picture_of : Page T → List ℕ
  picture_of p = flat_map (row_text p) (range_with_len 0 (min p.height 20))
