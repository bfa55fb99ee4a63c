-- The places of the kept rows are apart: writing one changes what is read at one cell.
use Rattle.std.proofs.Common.{◌≡◌, ℕ, ◌+◌, ◌*◌, ◌<◌, ◌≤◌, not, eqb, List, length, get_or, set, ℤ, pos, ◌+ℤ◌, arith}
use borrow.Author.Differences.{ints}
use Rattle.std.proofs.lemmas.Grind.{common_steps}
use Rattle.ledger.specs.Sums.{given}
use Rattle.ledger.specs.Page.{Page, number}
use Rattle.ledger.specs.Memory.{kept_rows, kept_columns, slot}
use Rattle.ledger.proofs.Page.{row_number, column_number}

-- of the rows from R on, as many as are kept
pub slots_same : (R r s c d : ℕ) → R ≤ r → r < R + kept_rows → R ≤ s → s < R + kept_rows → c < kept_columns → d < kept_columns → slot r c ≡ slot s d → (r ≡ s) × (c ≡ d)
slots_same R r s c d h i j k l m e = (omega arith, omega arith)

pub slot_below : (r c : ℕ) → c < kept_columns → slot r c < kept_rows * kept_columns
slot_below r c h = omega arith

module _ (p : Page) (xs : List ℤ) (long : length xs ≡ kept_rows * kept_columns) (slim : p.width ≤ kept_columns) (R s d r c : ℕ)
    (h : R ≤ s) (i : s < R + kept_rows) (j : d < p.width) (l : R ≤ r) (m : r < R + kept_rows) (k : c < p.width) where
  apart : slot r c ≡ slot s d → (r ≡ s) × (c ≡ d)
  apart q = slots_same R r s c d l m h i (omega arith) (omega arith) q

  cells_apart : number p r c ≡ number p s d → (r ≡ s) × (c ≡ d)
  cells_apart q = grind (arith, row_number p r c k, row_number p s d j, column_number p r c k, column_number p s d j)

  pub added : (z : ℤ) → get_or (set xs (slot s d) (get_or xs (slot s d) (pos 0) +ℤ z)) (slot r c) (pos 0) ≡ get_or xs (slot r c) (pos 0) +ℤ given (eqb (number p s d) (number p r c)) z
  added z = let lt : slot s d < length xs = omega (arith, slot_below s d (omega arith)) in grind (arith, ints, common_steps, apart, cells_apart)

  pub cleared : get_or (set xs (slot s d) (pos 0)) (slot r c) (pos 0) ≡ given (not (eqb (number p r c) (number p s d))) (get_or xs (slot r c) (pos 0))
  cleared = let lt : slot s d < length xs = omega (arith, slot_below s d (omega arith)) in grind (arith, ints, common_steps, apart, cells_apart)
