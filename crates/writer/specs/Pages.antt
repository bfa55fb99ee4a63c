-- The bytes of a written page.
use Rattle.std.specs.Prelude.{ℕ, Bool, cond, ◌&&◌, List, ◌++◌, map, codes, ◌==◌, nat_lt}
use Rattle.std.specs.List.{range_with_len, flat_map}
use Rattle.ink.specs.Inks.{Inks, ink_tone}
use Rattle.netpbm.specs.Plain.{framed, plain_header}
use Rattle.sheet.specs.Meaning.{SheetMeaning}
use Rattle.sheet.specs.Memory.{byte_of_row, stride}

-- f 0, .., f (n - 1), one after the other
abbrev pub pieces : (ℕ → List ℕ) → ℕ → List ℕ
pieces f n = flat_map f (range_with_len 0 n)

-- f 0, .., f (n - 1)
abbrev pub bytes_of : (ℕ → ℕ) → ℕ → List ℕ
bytes_of f n = map f (range_with_len 0 n)

-- for tones of n channels, the inks m and the sheet s
module _ {T : Type 0} (n : ℕ) (value : T → ℕ → ℕ) (m : Inks T) (s : SheetMeaning) where
  -- the channels of the ink at a place, of a row, and of all rows
  abbrev pub tone_bytes : ℕ → ℕ → List ℕ
  tone_bytes r c = bytes_of (value (ink_tone m (s.ink r c))) n

  abbrev pub tone_row : ℕ → List ℕ
  tone_row r = pieces (tone_bytes r) s.width

  abbrev pub tone_raster : List ℕ
  tone_raster = pieces tone_row s.height

  -- the number that an ink counts as: from the number of inks up it is ink 0
  abbrev pub counted : ℕ → ℕ → ℕ
  counted r c = cond (nat_lt (s.ink r c) m.number) (s.ink r c) 0

  -- a packed row, ink 0 being bit 1, highest bit first and filled with zero bits; and all rows
  abbrev pub bit_row : ℕ → List ℕ
  bit_row r = bytes_of (byte_of_row s.width counted r) (stride s.width)

  abbrev pub bit_raster : List ℕ
  bit_raster = pieces bit_row s.height

  -- the set has just two grey inks, tone 0 and then tone 255
  abbrev pub black_white : Bool
  black_white = n == 1 && (m.number == 2 && (value (ink_tone m 0) 0 == 0 && value (ink_tone m 1) 0 == 255))

  -- P4, LF, width, space, height, LF, packed rows
  abbrev pub bitmap : List ℕ
  bitmap = framed (codes "P4\n") s.width s.height (codes "\n") ++ bit_raster

  -- P and the kind's letter, LF, width, space, height, LF, 255, LF, tones
  abbrev pub tone_page : ℕ → List ℕ
  tone_page letter = plain_header letter s.width s.height ++ tone_raster

  abbrev pub written : ℕ → List ℕ
  written letter = cond black_white bitmap (tone_page letter)
