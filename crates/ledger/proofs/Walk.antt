-- From a cell to the next: its row, its place along the row and its column; and where a tap aims, by tests that code makes.
use Rattle.std.proofs.Common.{◌≡◌, ℕ, suc, ◌+◌, ◌-◌, ◌/◌, ◌%◌, ◌<◌, ◌≤◌, true, false, cond, eqb, ◌⊎◌, ℤ, pos, nat_abs, Some, None, arith}
use lib.Signed.{lt_z}
use borrow.Author.Differences.{ints}
use Rattle.std.proofs.lemmas.Nat.{div-add-mod', mod_below, rows}
use Rattle.ledger.specs.Page.{Page, backward, row, column, number, cell_at}
use Rattle.ledger.specs.Ledger.{ends_row}

-- ---- the next cell
along_next : (w k : ℕ) → 1 ≤ w → ((suc k / w ≡ k / w) × (suc k % w ≡ suc (k % w)) × (suc (k % w) < w)) ⊎ ((suc k / w ≡ suc (k / w)) × (suc k % w ≡ 0) × (suc (k % w) ≡ w))
along_next w k h = grind (arith, rows, div-add-mod' k w, mod_below k w, div-add-mod' (suc k) w, mod_below (suc k) w)

module _ (p : Page) (k : ℕ) (w : 1 ≤ p.width) where
  pub in_row : suc (k % p.width) < p.width →
      (row p (suc k) ≡ row p k) × (suc k % p.width ≡ suc (k % p.width)) × (column p (suc k) ≡ cond (backward p (row p k)) (column p k - 1) (column p k + 1))
  unfolding column
  in_row l = let n = along_next p.width k w in grind arith

  pub new_row : suc (k % p.width) ≡ p.width →
      (row p (suc k) ≡ suc (row p k)) × (suc k % p.width ≡ 0) × (column p (suc k) ≡ cond (backward p (suc (row p k))) (p.width - 1) 0)
  unfolding column
  new_row l = let n = along_next p.width k w in grind arith

  pub ends_is : eqb (k % p.width + 1) p.width ≡ ends_row p k
  ends_is = let n = along_next p.width k w in grind arith

-- ---- the cell at a row and a column that may lie off the page
pub off_left : (p : Page) (r : ℕ) (c : ℤ) → lt_z c (pos 0) ≡ true → cell_at p r c ≡ None
unfolding cell_at
off_left p r c h = grind (arith, ints)

pub off_below : (p : Page) (r : ℕ) (c : ℤ) → p.height ≤ r → cell_at p r c ≡ None
unfolding cell_at
off_below p r c h = grind (arith, ints)

pub off_right : (p : Page) (r : ℕ) (c : ℤ) → lt_z c (pos 0) ≡ false → p.width ≤ nat_abs c → cell_at p r c ≡ None
unfolding cell_at
off_right p r c z h = grind (arith, ints)

pub on_page : (p : Page) (r : ℕ) (c : ℤ) → lt_z c (pos 0) ≡ false → r < p.height → nat_abs c < p.width → cell_at p r c ≡ Some (number p r (nat_abs c))
unfolding cell_at
on_page p r c z h l = grind (arith, ints)
