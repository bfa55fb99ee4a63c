-- How the inks of a sheet lie in memory.
use Rattle.std.specs.Prelude.{ℕ, ◌+◌, ◌-◌, ◌*◌, ◌/◌, ◌%◌, ◌^◌, cond, ◌&&◌, List, ◌++◌, map, ◌==◌, nat_lt, slice_index}
use Rattle.std.specs.List.{range_with_len}
use Rattle.sheet.specs.Meaning.{SheetMeaning}
use Rattle.sheet.specs.Packing.{PackingMeaning}

-- ink 0 everywhere
abbrev pub blank : ℕ → ℕ → ℕ
blank row column = 0

-- the memory of a sheet: the packed rows one after the other, and what stands past them
abbrev pub lent_memory : PackingMeaning → ℕ → ℕ → (ℕ → ℕ → ℕ) → List ℕ → List ℕ
lent_memory p width height ink past =
    map (λ k. p.row_byte width ink (k / p.stride width) (k % p.stride width)) (range_with_len 0 (p.stride width * height)) ++ past

-- the ink that the memory holds for a place
abbrev pub lent_ink : PackingMeaning → List ℕ → ℕ → ℕ → ℕ → ℕ
lent_ink p memory width row column = p.ink_in (slice_index memory (row * p.stride width + p.byte_of column)) column

-- what the sheet means, by its memory and its size
abbrev pub lent_meaning : PackingMeaning → List ℕ → ℕ → ℕ → SheetMeaning
lent_meaning p memory width height = record { width = width; height = height; limit = p.limit; ink = lent_ink p memory width }

-- Bytes: one for each place.

abbrev pub byte_packing : PackingMeaning
byte_packing = record {
  limit = 256;
  stride = λ width. width;
  byte_of = λ column. column;
  ink_in = λ byte column. byte;
  row_byte = λ width ink row j. ink row j;
}

-- the memory, the inks and the meaning of a byte sheet
abbrev pub byte_memory : ℕ → ℕ → (ℕ → ℕ → ℕ) → List ℕ → List ℕ
byte_memory = lent_memory byte_packing

abbrev pub byte_ink : List ℕ → ℕ → ℕ → ℕ → ℕ
byte_ink = lent_ink byte_packing

abbrev pub byte_meaning : List ℕ → ℕ → ℕ → SheetMeaning
byte_meaning = lent_meaning byte_packing

-- Bits: rows as PBM has them, highest bit first, each row filled to a whole byte with zero bits. Ink 0 is bit 1, black.

-- bit k of a byte, counted from the highest
abbrev pub bit : ℕ → ℕ → ℕ
bit byte k = byte / 2 ^ (7 - k) % 2

-- the bytes of a row
abbrev pub stride : ℕ → ℕ
stride width = (width + 7) / 8

-- the bit for a place, 0 past the row's end
abbrev pub bit_of_place : ℕ → (ℕ → ℕ → ℕ) → ℕ → ℕ → ℕ
bit_of_place width ink row column = cond (nat_lt column width && ink row column == 0) 1 0

-- byte j of a row
abbrev pub byte_of_row : ℕ → (ℕ → ℕ → ℕ) → ℕ → ℕ → ℕ
byte_of_row width ink row j =
    128 * bit_of_place width ink row (8 * j) + 64 * bit_of_place width ink row (8 * j + 1)
    + 32 * bit_of_place width ink row (8 * j + 2) + 16 * bit_of_place width ink row (8 * j + 3)
    + 8 * bit_of_place width ink row (8 * j + 4) + 4 * bit_of_place width ink row (8 * j + 5)
    + 2 * bit_of_place width ink row (8 * j + 6) + bit_of_place width ink row (8 * j + 7)

abbrev pub bit_packing : PackingMeaning
bit_packing = record {
  limit = 2;
  stride = stride;
  byte_of = λ column. column / 8;
  ink_in = λ byte column. 1 - bit byte (column % 8);
  row_byte = byte_of_row;
}

-- the memory, the inks and the meaning of a bit sheet
abbrev pub bit_memory : ℕ → ℕ → (ℕ → ℕ → ℕ) → List ℕ → List ℕ
bit_memory = lent_memory bit_packing

abbrev pub bit_ink : List ℕ → ℕ → ℕ → ℕ → ℕ
bit_ink = lent_ink bit_packing

abbrev pub bit_meaning : List ℕ → ℕ → ℕ → SheetMeaning
bit_meaning = lent_meaning bit_packing
