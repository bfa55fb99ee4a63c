-- The cells of a page, numbered from 0 in the order in which they are done, and where a tap aims.
use Rattle.std.specs.Prelude.{ℕ, ◌+◌, ◌-◌, ◌*◌, ◌/◌, ◌%◌, Bool, true, false, cond, ◌&&◌, ℤ, pos, negsuc, ◌+ℤ◌, ◌-ℤ◌, Some, None, Option, ◌==◌, nat_le, nat_lt}
use Rattle.kernel.specs.declared.tap.Tap.{Tap}
use Rattle.ledger.specs.declared.order.Order.{Order}
use Rattle.ledger.specs.Orders.{runs_back}

pub record Page : Type 0 where
  pub width : ℕ
  pub height : ℕ
  pub order : Order

abbrev pub cells : Page → ℕ
cells p = p.width * p.height

abbrev pub backward : Page → ℕ → Bool
backward p r = runs_back p.order r

-- the row of the k-th cell, and its column
abbrev pub row : Page → ℕ → ℕ
row p k = k / p.width

unfoldable pub column : Page → ℕ → ℕ
column p k = cond (backward p (row p k)) (p.width - 1 - k % p.width) (k % p.width)

-- the number of the cell at row r and column c of the page
unfoldable pub number : Page → ℕ → ℕ → ℕ
number p r c = r * p.width + cond (backward p r) (p.width - 1 - c) c

-- the number of the cell at row r and column c, or none where that lies off the page
unfoldable pub cell_at : Page → ℕ → ℤ → Option ℕ
cell_at p r (pos c) = cond (nat_lt r p.height && nat_lt c p.width) (Some (number p r c)) None
cell_at p r (negsuc c) = None

-- a columns ahead of column c: to the left in a row that runs right to left
unfoldable pub ahead : Bool → ℤ → ℤ → ℤ
ahead true c a = c -ℤ a
ahead false c a = c +ℤ a

-- The cell at which the tap t of cell j aims. The direction is that of j's own row, the row that sends.
unfoldable pub aimed : Page → Tap → ℕ → Option ℕ
aimed p t j = cell_at p (row p j + t.down) (ahead (backward p (row p j)) (pos (column p j)) t.ahead)

-- tests of what is aimed at: it is cell k; it is a cell of the page that is not among the first n; it lies off the page
abbrev pub hits : ℕ → Option ℕ → Bool
hits k None = false
hits k (Some m) = m == k

abbrev pub waits : ℕ → Option ℕ → Bool
waits n None = false
waits n (Some m) = nat_le n m

abbrev pub off : Option ℕ → Bool
off None = true
off (Some m) = false
