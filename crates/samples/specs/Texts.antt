-- The text of a page.
use Rattle.std.specs.Prelude.{ℕ, zero, suc, ◌+◌, ◌/◌, ◌%◌, cond, List, [], ◌∷◌, ◌++◌, Ok, Err, Result, nat_lt}
use Rattle.source.specs.Faults.{Told}
use Rattle.source.specs.Pages.{Page, answer}

-- f 0, f 1, .. f (n - 1), one after the other
abbrev pub joined : (ℕ → List ℕ) → ℕ → List ℕ
joined f zero = []
joined f (suc n) = joined f n ++ f n

-- 0 to 9 and a to f
abbrev pub hex_digit : ℕ → ℕ
hex_digit d = cond (nat_lt d 10) (48 + d) (87 + d)

abbrev pub hex_byte : ℕ → List ℕ
hex_byte x = hex_digit (x / 16) ∷ (hex_digit (x % 16) ∷ [])

module _ {T : Type 0} (n : ℕ) (value : T → ℕ → ℕ) where
  -- two digits for a sample, two hyphens where there is none
  abbrev pub sample_text : Result T Told → ℕ → List ℕ
  sample_text (Ok t) i = hex_byte (value t i)
  sample_text (Err f) i = 45 ∷ (45 ∷ [])

  -- a space, and a sample for each channel
  abbrev pub place_text : Result T Told → List ℕ
  place_text a = 32 ∷ joined (sample_text a) n

  -- the places of a row, and LF
  abbrev pub row_text : Page T → ℕ → List ℕ
  row_text p r = joined (λ c. place_text (answer p r c)) p.width ++ (10 ∷ [])

  abbrev pub text_of : Page T → List ℕ
  text_of p = joined (row_text p) p.height
