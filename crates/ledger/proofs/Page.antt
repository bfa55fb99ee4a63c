-- A cell's number, row and column give one another; taps aim at later cells.
use Rattle.std.proofs.Common.{◌≡◌, ℕ, zero, suc, ◌+◌, ◌-◌, ◌/◌, ◌<◌, ◌≤◌, Bool, cond, ℤ, pos, negsuc, ◌≤ℤ◌, Some, sym, refl, ap, ◌∙◌, arith}
use borrow.Author.Differences.{ints}
use Rattle.std.proofs.lemmas.Option.{none-some}
use Rattle.std.proofs.lemmas.Nat.{div-mul-add, mod-mul-add, mod_below, div-add-mod', rows}
use Rattle.kernel.specs.declared.tap.Tap.{Tap}
use Rattle.ledger.specs.Page.{Page, backward, cells, row, column, number, cell_at, ahead, aimed}

pub column_below : (p : Page) (k : ℕ) → 1 ≤ p.width → column p k < p.width
unfolding column
column_below p k h = grind (arith, mod_below k p.width h)

pub number_of : (p : Page) (k : ℕ) → 1 ≤ p.width → number p (row p k) (column p k) ≡ k
unfolding number column
number_of p k h = grind (arith, div-add-mod' k p.width, mod_below k p.width h)

pub row_number : (p : Page) (r c : ℕ) → c < p.width → row p (number p r c) ≡ r
unfolding number
row_number p r c h = grind (arith, div-mul-add)

pub column_number : (p : Page) (r c : ℕ) → c < p.width → column p (number p r c) ≡ c
unfolding number column
column_number p r c h = grind (arith, div-mul-add, mod-mul-add)

pub number_below : (p : Page) (r c : ℕ) → r < p.height → c < p.width → number p r c < cells p
unfolding number
number_below p r c h l = grind (arith, rows)

pub row_below : (p : Page) (k : ℕ) → 1 ≤ p.width → k < cells p → row p k < p.height
row_below p k h l = grind (arith, rows)

-- ---- a place that is on the page
pub cell_at_in : (p : Page) (r c : ℕ) → r < p.height → c < p.width → cell_at p r (pos c) ≡ Some (number p r c)
unfolding cell_at
cell_at_in p r c h l = grind arith

pub cell_at_out : (p : Page) (r : ℕ) (c : ℤ) (m : ℕ) → cell_at p r c ≡ Some m → (i : ℕ) × (c ≡ pos i) × (r < p.height) × (i < p.width) × (m ≡ number p r i)
unfolding cell_at
cell_at_out p r (negsuc c) m e = absurd (none-some m e)
cell_at_out p r (pos c) m e = (c, refl, grind arith, grind arith, grind arith)

-- ---- the cell that a tap aims at: its row and column
pub aimed_out : (p : Page) (t : Tap) (j m : ℕ) → aimed p t j ≡ Some m → (row p m ≡ row p j + t.down) × (pos (column p m) ≡ ahead (backward p (row p j)) (pos (column p j)) t.ahead) × (m < cells p)
unfolding aimed
aimed_out p t j m e =
    let o = cell_at_out p (row p j + t.down) _ m e in
    let is = o.4 in
    (ap (row p) is ∙ row_number p _ o.0 o.3, ap (λ n. pos (column p n)) is ∙ ap pos (column_number p _ o.0 o.3) ∙ sym o.1, rw is (number_below p _ o.0 o.2 o.3))

pub aimed_in : (p : Page) (t : Tap) (j k : ℕ) → 1 ≤ p.width → k < cells p → row p k ≡ row p j + t.down → pos (column p k) ≡ ahead (backward p (row p j)) (pos (column p j)) t.ahead → aimed p t j ≡ Some k
unfolding aimed
aimed_in p t j k w l e f =
    rw (← e, ← f) (cell_at_in p (row p k) (column p k) (row_below p k w l) (column_below p k w) ∙ ap Some (number_of p k w))

-- later in the same row, or in a later row
step_ahead : (b : Bool) (w i j : ℕ) (a : ℤ) → i < w → j < w → pos 1 ≤ℤ a → pos j ≡ ahead b (pos i) a → cond b (w - 1 - i) i < cond b (w - 1 - j) j
unfolding ahead
step_ahead b w i j a h l one e = grind (arith, ints)

later_row : (w j m d : ℕ) → 1 ≤ w → m / w ≡ j / w + suc d → j < m
later_row w j m d h e = grind (arith, rows, mod_below j w h, div-add-mod' j w, div-add-mod' m w)

pub aims_later : (p : Page) (t : Tap) (j m : ℕ) → 1 ≤ p.width → (t.down ≡ 0 → pos 1 ≤ℤ t.ahead) → aimed p t j ≡ Some m → j < m
unfolding number
aims_later p t j m h rule e = go t.down refl
  where
    o : (row p m ≡ row p j + t.down) × (pos (column p m) ≡ ahead (backward p (row p j)) (pos (column p j)) t.ahead) × (m < cells p)
    o = aimed_out p t j m e

    go : (d : ℕ) → t.down ≡ d → j < m
    go (suc d) z = later_row p.width j m d h (o.0 ∙ ap (λ n. row p j + n) z)
    go zero z =
        let same : row p m ≡ row p j = omega (arith, o.0) in
        let at_j = number_of p j h in
        let at_m : number p (row p j) (column p m) ≡ m = rw same at (number_of p m h) in
        let ahead = step_ahead (backward p (row p j)) p.width (column p j) (column p m) t.ahead (column_below p j h) (column_below p m h) (rule z) o.1 in
        omega arith

-- a page of width 0 has no cell to aim at
pub none_aimed : (p : Page) (t : Tap) (j m : ℕ) → p.width ≡ 0 → aimed p t j ≡ Some m → ⊥
unfolding aimed cell_at
none_aimed p t j m z e = grind (arith, ints)
