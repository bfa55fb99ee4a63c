-- What is left on a sheet, and in its memory, by laying ink 1 at a place and at its mirror image.
use Rattle.std.specs.Prelude.{◌≡◌, ℕ, ◌<◌, cond, nat_lt}
use Rattle.sheet.specs.Laying.{put}
use Rattle.sheet.specs.Meaning.{SheetMeaning}

-- ink 1 at (row, column) and at (column, row)
abbrev pub marked : (ℕ → ℕ → ℕ) → ℕ → ℕ → ℕ → ℕ → ℕ
marked ink row column = put (put ink row column 1) column row 1

-- the same where ink numbers are below the limit: a sheet that takes no ink 1 stays as it is
abbrev pub marked_below : ℕ → (ℕ → ℕ → ℕ) → ℕ → ℕ → ℕ → ℕ → ℕ
marked_below limit ink row column i j = cond (nat_lt 1 limit) (marked ink row column i j) (ink i j)

-- `after` is `before` with the two places marked
pub record Marked (before after : SheetMeaning) (row column : ℕ) : Type 0 where
  pub width : after.width ≡ before.width
  pub height : after.height ≡ before.height
  pub limit : after.limit ≡ before.limit
  pub inks : (i j : ℕ) → i < before.height → j < before.width
      → after.ink i j ≡ marked_below before.limit before.ink row column i j
