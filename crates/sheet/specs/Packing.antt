-- How the inks of a row are packed in bytes.
use Rattle.std.specs.Prelude.{◌≡◌, ℕ, ◌<◌, ◌≤◌}

pub record PackingMeaning : Type 0 where
  -- ink numbers are below this
  pub limit : ℕ
  -- the bytes of a row
  pub stride : (width : ℕ) → ℕ
  -- the byte of its row that a column stands in
  pub byte_of : (column : ℕ) → ℕ
  -- the ink that a byte holds for a column
  pub ink_in : (byte column : ℕ) → ℕ
  -- byte j of a row, by the inks of the sheet
  pub row_byte : (width : ℕ) (ink : ℕ → ℕ → ℕ) (row j : ℕ) → ℕ

-- what every packing keeps
pub record PackingLaws (p : PackingMeaning) : Type 0 where
  pub some : 1 ≤ p.limit
  pub few : p.limit ≤ 256
  -- a row has no more bytes than columns, and one of them for each column
  pub short : (width : ℕ) → p.stride width ≤ width
  pub inside : (width column : ℕ) → column < width → p.byte_of column < p.stride width
  -- a byte of a row holds the inks of its columns
  pub holds : (width : ℕ) (ink : ℕ → ℕ → ℕ) (row column : ℕ) → column < width → ink row column < p.limit
      → p.ink_in (p.row_byte width ink row (p.byte_of column)) column ≡ ink row column
  -- and depends on no other ink
  pub local : (width : ℕ) (ink other : ℕ → ℕ → ℕ) (row j : ℕ) → j < p.stride width
      → ((column : ℕ) → column < width → p.byte_of column ≡ j → ink row column ≡ other row column)
      → p.row_byte width ink row j ≡ p.row_byte width other row j
