-- Asking for a place of a sheet and laying an ink number there: which calls are refused, and what changes.
use Rattle.std.specs.Prelude.{◌≡◌, ℕ, ◌<◌, Bool, cond, ◌&&◌, List, codes, Ok, Err, Result, ◌==◌, nat_lt}
use Rattle.sheet.specs.declared.fault.SheetFault.{SheetFault}
use Rattle.sheet.specs.declared.fault.SheetFault.TheVariants.{OffSheet, OverLimit}
use Rattle.sheet.specs.Meaning.{SheetMeaning}

-- the number of a refusal
abbrev pub fault_number : SheetFault → ℕ
fault_number OffSheet = 9
fault_number OverLimit = 10

-- the text of a refusal
abbrev pub fault_text : SheetFault → List ℕ
fault_text OffSheet = codes "refusal 9: the place is not on the sheet"
fault_text OverLimit = codes "refusal 10: the ink number is the sheet's limit or more"

-- an answer, with the refusal by its number
abbrev pub numbered : {X : Type 0} → Result X SheetFault → Result X ℕ
numbered (Ok x) = Ok x
numbered (Err f) = Err (fault_number f)

abbrev pub on_sheet : SheetMeaning → ℕ → ℕ → Bool
on_sheet m row column = nat_lt row m.height && nat_lt column m.width

-- what asking for a place answers
abbrev pub asking : SheetMeaning → ℕ → ℕ → Result ℕ ℕ
asking m row column = cond (on_sheet m row column) (Ok (m.ink row column)) (Err 9)

-- what laying a number at a place answers
abbrev pub laying : SheetMeaning → ℕ → ℕ → ℕ → Result (Unit {0}) ℕ
laying m row column number =
    cond (on_sheet m row column) (cond (nat_lt number m.limit) (Ok tt) (Err 10)) (Err 9)

-- ink numbers with one place changed
abbrev pub put : (ℕ → ℕ → ℕ) → ℕ → ℕ → ℕ → ℕ → ℕ → ℕ
put ink row column number i j = cond (i == row && j == column) number (ink i j)

-- `after` is `before` with a number laid at one place
pub record Laid (before after : SheetMeaning) (row column number : ℕ) : Type 0 where
  pub width : after.width ≡ before.width
  pub height : after.height ≡ before.height
  pub limit : after.limit ≡ before.limit
  pub inks : (i j : ℕ) → i < before.height → j < before.width
      → after.ink i j ≡ put before.ink row column number i j

-- what laying leaves, by its answer: the number at its place, or after a refusal the very sheet that was there
abbrev pub After : {S : Type 0} → (S → SheetMeaning) → S → S → ℕ → ℕ → ℕ → Result (Unit {0}) SheetFault → Type 0
After meaning before after row column number (Ok _) = Laid (meaning before) (meaning after) row column number
After meaning before after row column number (Err _) = after ≡ before

-- a sheet of this size and limit with ink 0 at each place
pub record Blank (m : SheetMeaning) (width height limit : ℕ) : Type 0 where
  pub as_wide : m.width ≡ width
  pub as_high : m.height ≡ height
  pub as_limit : m.limit ≡ limit
  pub inks : (row column : ℕ) → row < height → column < width → m.ink row column ≡ 0
