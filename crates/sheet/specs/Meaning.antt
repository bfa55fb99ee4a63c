-- What a sheet means: a size, a limit and an ink number at each place.
use Rattle.std.specs.Prelude.{ℕ, ◌<◌, ◌≤◌}

pub record SheetMeaning : Type 0 where
  pub width : ℕ
  pub height : ℕ
  -- ink numbers are below this
  pub limit : ℕ
  -- the number at a row and a column; what it is off the sheet means nothing
  pub ink : ℕ → ℕ → ℕ

-- the bounds of every sheet
pub record SheetBounds (m : SheetMeaning) : Type 0 where
  pub wide : m.width ≤ 65535
  pub high : m.height ≤ 65535
  pub some : 1 ≤ m.limit
  pub few : m.limit ≤ 256
  pub below : (row column : ℕ) → row < m.height → column < m.width → m.ink row column < m.limit
