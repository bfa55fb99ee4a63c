-- The header of a page: two letters, width, height and maximum, and one white byte.
use Rattle.std.specs.Prelude.{◌≡◌, ℕ, ◌+◌, ◌<◌, ◌≤◌, true, ◌⊎◌, List, length, Ok, Err, Result, ◌≢◌, slice_index, slice_index_or}
use Rattle.netpbm.specs.declared.heading.Header.{Header}
use Rattle.netpbm.specs.Fields.{white, Field, NoField}
use Rattle.netpbm.specs.Refusals.{Refusal, refusal}

-- the first two bytes are P and the kind's letter
pub record Lettered (letter : ℕ) (bs : List ℕ) : Type 0 where
  pub both : 2 ≤ length bs
  pub first : slice_index_or bs 0 0 ≡ 80
  pub second : slice_index_or bs 1 0 ≡ letter

-- the field from p to q is a width or a height v
pub record SizeField (bs : List ℕ) (p v q : ℕ) : Type 0 where
  pub field : Field bs p v q
  pub least : 1 ≤ v
  pub most : v ≤ 65535

-- A width or a height at p is refused: 16 where no field starts there, 17 where its value is out of range.
pub data SizeRefused (bs : List ℕ) (p : ℕ) : ℕ → Type 0 where
  no_field : NoField bs p → SizeRefused bs p 16
  out_of_range : (v q : ℕ) → Field bs p v q → (v < 1) ⊎ (65535 < v) → SizeRefused bs p 17

-- a field of value v from p to q, and the white byte that ends the header at q
pub record LastField (bs : List ℕ) (p v q : ℕ) : Type 0 where
  pub field : Field bs p v q
  pub within : q < length bs
  pub ended : white (slice_index bs q) ≡ true

-- the maximum at p is 255, and the samples begin at o
pub record MaximumField (bs : List ℕ) (p o : ℕ) : Type 0 where
  pub end : ℕ
  pub last : LastField bs p 255 end
  pub after : o ≡ end + 1

-- The maximum at p is refused: 16 where no field with a white byte after it starts there, 18 where its value is not 255.
pub data MaximumRefused (bs : List ℕ) (p : ℕ) : ℕ → Type 0 where
  no_last_field : ((v q : ℕ) → LastField bs p v q → ⊥) → MaximumRefused bs p 16
  not_full : (v q : ℕ) → LastField bs p v q → (v ≢ 255) → MaximumRefused bs p 18

abbrev pub header : ℕ → ℕ → ℕ → Header
header w h o = record { width = w; height = h; raster = o }

-- What reading the bytes as a page with this letter comes to. The fields are judged from left to right, each wholly
-- before the next, and a refusal tells the byte where the refused field starts.
pub data Reading (letter : ℕ) (bs : List ℕ) : Result Header Refusal → Type 0 where
  no_letters : (Lettered letter bs → ⊥) → Reading letter bs (Err (refusal 15 0))
  no_width : {n : ℕ} → Lettered letter bs → SizeRefused bs 2 n → Reading letter bs (Err (refusal n 2))
  no_height : {n w p : ℕ} → Lettered letter bs → SizeField bs 2 w p → SizeRefused bs p n →
      Reading letter bs (Err (refusal n p))
  no_maximum : {n w p h q : ℕ} → Lettered letter bs → SizeField bs 2 w p → SizeField bs p h q → MaximumRefused bs q n →
      Reading letter bs (Err (refusal n q))
  page : {w p h q o : ℕ} → Lettered letter bs → SizeField bs 2 w p → SizeField bs p h q → MaximumField bs q o →
      Reading letter bs (Ok (header w h o))
