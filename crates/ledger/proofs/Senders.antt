-- What is sent to a cell, read at the cells that send it: for each tap there is one sender, or none.
use Rattle.std.proofs.Common.{◌≡◌, ℕ, ◌+◌, ◌-◌, ◌*◌, ◌<◌, ◌≤◌, Bool, true, false, not, ltb, List, [], ◌∷◌, ℤ, pos, negsuc, ◌+ℤ◌, ◌-ℤ◌, ◌*ℤ◌, nat_abs, Some, None, Option, sym, refl, ap, ◌∙◌, ⊎_elim, mul-le-mul_left, arith}
use borrow.Author.Differences.{ints}
use Rattle.std.proofs.lemmas.Bool.{cases_lt, eq-eqb, lt-ltb}
use Rattle.std.proofs.lemmas.Option.{none-some}
use Rattle.std.proofs.lemmas.Int.{unsigned_abs-mul}
use Rattle.std.proofs.lemmas.List.Sums.{sum_by-cons}
use Rattle.ledger.specs.Sums.{Σ<, Σ∈, given}
use Rattle.kernel.specs.declared.tap.Tap.{Tap}
use Rattle.ledger.specs.Page.{Page, backward, cells, row, column, number, cell_at, ahead, aimed, hits}
use Rattle.ledger.specs.Ledger.{Trace, sent, pending}
use Rattle.kernel.specs.Rules.{Shape, weights}
use Rattle.ledger.proofs.Kernels.{EachAhead}
use Rattle.ledger.proofs.Ring.{abs_add}
use Rattle.ledger.proofs.Sums.{ΣExt, ΣZero, ΣAdd, ΣMul, ΣOne, ΣNone}
use Rattle.ledger.proofs.Page.{column_below, number_of, row_number, column_number, row_below, cell_at_in, cell_at_out, aimed_out, aimed_in, aims_later}

-- the error at row i and column c, and 0 off the page and at the cells from n on
unfoldable pub valued : (ℕ → ℤ) → ℕ → Option ℕ → ℤ
valued e n None = pos 0
valued e n (Some j) = given (ltb j n) (e j)

unfoldable pub error_at : Page → (ℕ → ℤ) → ℕ → ℤ → ℤ → ℤ
error_at p e n (pos r) c = valued e n (cell_at p r c)
error_at p e n (negsuc r) c = pos 0

abbrev pub turned : Page → ℤ → Bool
turned p (pos r) = backward p r
turned p (negsuc r) = false

-- the error of the place from which the tap t aims at row i and column c
abbrev pub sender : Page → (ℕ → ℤ) → ℕ → Tap → ℤ → ℤ → ℤ
sender p e n t i c = error_at p e n (i -ℤ pos t.down) (ahead (not (turned p (i -ℤ pos t.down))) c t.ahead)

valued_abs : (e : ℕ → ℤ) (n E : ℕ) → ((k : ℕ) → k < n → nat_abs (e k) ≤ E) → (o : Option ℕ) → nat_abs (valued e n o) ≤ E
unfolding valued
valued_abs e n E h o = grind (arith, ints, h)

pub error_at_abs : (p : Page) (e : ℕ → ℤ) (n E : ℕ) → ((k : ℕ) → k < n → nat_abs (e k) ≤ E) → (i c : ℤ) → nat_abs (error_at p e n i c) ≤ E
unfolding error_at
error_at_abs p e n E h i c = grind (arith, ints, valued_abs e n E h)

pub hits_some : (k : ℕ) (o : Option ℕ) → hits k o ≡ true → o ≡ Some k
hits_some k o h = grind arith

back_again : (b : Bool) (c d a : ℤ) → d ≡ ahead b c a → c ≡ ahead (not b) d a
unfolding ahead
back_again b c d a e = grind (arith, ints)

forth_again : (b : Bool) (c d a : ℤ) → c ≡ ahead (not b) d a → d ≡ ahead b c a
unfolding ahead
forth_again b c d a e = grind (arith, ints)

-- The one cell whose tap t aims at cell k, or none: it stands at row r and column c. The sum runs over the first N cells, and the errors read are of the first n; the cells that aim at k are in both or in neither.
module _ (p : Page) (e : ℕ → ℤ) (N n k : ℕ) (t : Tap) (w : 1 ≤ p.width) (l : k < cells p) (agree : (j : ℕ) → aimed p t j ≡ Some k → ltb j N ≡ ltb j n) where
  from : (j : ℕ) → hits k (aimed p t j) ≡ true → (row p k ≡ row p j + t.down) × (pos (column p k) ≡ ahead (backward p (row p j)) (pos (column p j)) t.ahead) × (k < cells p)
  from j h = aimed_out p t j k (hits_some k (aimed p t j) h)

  module _ (r : ℕ) (c : ℤ) (is_row : row p k ≡ r + t.down) (is-column : c ≡ ahead (not (backward p r)) (pos (column p k)) t.ahead) where
    sender_cell : (j : ℕ) → hits k (aimed p t j) ≡ true → cell_at p r c ≡ Some j
    sender_cell j y =
        let f = from j y in
        let q : row p j ≡ r = omega (arith, f.0) in
        let g : pos (column p j) ≡ c = (rw q at (back_again (backward p (row p j)) (pos (column p j)) (pos (column p k)) t.ahead f.1)) ∙ sym is-column in
        let here : row p j < p.height = omega (arith, row_below p k w l) in
        rw (← q, ← g) (cell_at_in p (row p j) (column p j) here (column_below p j w) ∙ ap Some (number_of p j w))

    sender_aims : (j : ℕ) → cell_at p r c ≡ Some j → aimed p t j ≡ Some k
    sender_aims j y =
        let o = cell_at_out p r c j y in
        let q : row p j ≡ r = ap (row p) o.4 ∙ row_number p r o.0 o.3 in
        let g : pos (column p j) ≡ c = ap (λ i. pos (column p i)) o.4 ∙ ap pos (column_number p r o.0 o.3) ∙ sym o.1 in
        aimed_in p t j k w l (rw q is_row) (rw (q, g) (forth_again (backward p r) c (pos (column p k)) t.ahead is-column))

    at_sender : (o : Option ℕ) → cell_at p r c ≡ o → Σ< N (λ j. given (hits k (aimed p t j)) (e j)) ≡ valued e n o
    unfolding valued
    at_sender None y = ΣNone N (λ j. hits k (aimed p t j)) e (λ j i h. none-some j (sym y ∙ sender_cell j h))
    at_sender (Some j) y = rw (← agree j (sender_aims j y)) (go (ltb j N) refl)
      where
        only : (i : ℕ) → hits k (aimed p t i) ≡ true → i ≡ j
        only i h = let q = sender_cell i h in cc

        on : hits k (aimed p t j) ≡ true
        on = rw (sender_aims j y) (eq-eqb k k refl)

        go : (b : Bool) → ltb j N ≡ b → Σ< N (λ j. given (hits k (aimed p t j)) (e j)) ≡ given b (e j)
        go true f = ΣOne N (λ j. hits k (aimed p t j)) e j (grind arith) on (λ i b h. only i h)
        go false f = ΣNone N (λ j. hits k (aimed p t j)) e (λ i b h. let q = only i h in grind arith)

  pub one_sender : Σ< N (λ j. given (hits k (aimed p t j)) (e j)) ≡ sender p e n t (pos (row p k)) (pos (column p k))
  unfolding error_at
  one_sender = ⊎_elim
      (λ h.
      let z : pos (row p k) -ℤ pos t.down ≡ negsuc (t.down - row p k - 1) = omega (arith, ints) in
      rw z (ΣNone N (λ j. hits k (aimed p t j)) e (λ j i y. omega (arith, (from j y).0))))
      (λ h.
      let z : pos (row p k) -ℤ pos t.down ≡ pos (row p k - t.down) = omega (arith, ints) in
      rw z (at_sender (row p k - t.down) _ (omega arith) refl _ refl))
      (cases_lt (row p k) t.down)

-- all that is sent to cell k
given_mul : (b : Bool) (w e : ℤ) → given b (w *ℤ e) ≡ w *ℤ given b e
given_mul b w e = grind (arith, ints)

Agree : Page → ℕ → ℕ → ℕ → List Tap → Type 0
Agree p N n k [] = Unit {0}
Agree p N n k (t ∷ ts) = ((j : ℕ) → aimed p t j ≡ Some k → ltb j N ≡ ltb j n) × Agree p N n k ts

brought_by : (p : Page) (e : ℕ → ℤ) (N n k : ℕ) (ts : List Tap) → 1 ≤ p.width → k < cells p → Agree p N n k ts →
    Σ< N (λ j. Σ∈ ts (λ t. given (hits k (aimed p t j)) (pos t.weight *ℤ e j))) ≡ Σ∈ ts (λ t. pos t.weight *ℤ sender p e n t (pos (row p k)) (pos (column p k)))
unfolding Agree
brought_by p e N n k [] w l a = ΣZero N _ (λ j i. refl)
brought_by p e N n k (t ∷ ts) w l a =
    ΣAdd N (λ j. given (hits k (aimed p t j)) (pos t.weight *ℤ e j)) _
    ∙ ap (λ z. z +ℤ Σ< N (λ j. Σ∈ ts (λ t. given (hits k (aimed p t j)) (pos t.weight *ℤ e j))))
    (ΣExt N _ _ (λ j i. given_mul (hits k (aimed p t j)) (pos t.weight) (e j)) ∙ ΣMul N (pos t.weight) (λ j. given (hits k (aimed p t j)) (e j)) ∙ ap (λ z. pos t.weight *ℤ z) (one_sender p e N n k t w l a.0))
    ∙ ap (λ z. pos t.weight *ℤ sender p e n t (pos (row p k)) (pos (column p k)) +ℤ z) (brought_by p e N n k ts w l a.1)

always : (p : Page) (n k : ℕ) (ts : List Tap) → Agree p n n k ts
unfolding Agree
always p n k [] = tt
always p n k (t ∷ ts) = ((λ j e. refl), always p n k ts)

sooner : (p : Page) (n k : ℕ) (ts : List Tap) → 1 ≤ p.width → EachAhead ts → k ≤ n → Agree p k n k ts
unfolding Agree
sooner p n k [] w a m = tt
sooner p n k (t ∷ ts) w a m = ((λ j e. let b = aims_later p t j k w a.0 e in lt-ltb j k b ∙ sym (lt-ltb j n (omega arith))), sooner p n k ts w a.1 m)

-- from the first n cells to any cell
pub pending_is : (p : Page) (K : Shape) (s : Trace) (n m : ℕ) → 1 ≤ p.width → m < cells p →
    pending p K s n m ≡ Σ∈ K.taps (λ t. pos t.weight *ℤ sender p s.error n t (pos (row p m)) (pos (column p m)))
unfolding pending sent
pending_is p K s n m w l = brought_by p s.error n n m K.taps w l (always p n m K.taps)

-- to a done cell
pub brought_is : (p : Page) (K : Shape) (s : Trace) (n k : ℕ) → 1 ≤ p.width → EachAhead K.taps → k < cells p → k ≤ n →
    pending p K s k k ≡ Σ∈ K.taps (λ t. pos t.weight *ℤ sender p s.error n t (pos (row p k)) (pos (column p k)))
unfolding pending sent
brought_is p K s n k w a l m = brought_by p s.error k n k K.taps w l (sooner p n k K.taps w a m)

-- its size
pub taps_abs : (ts : List Tap) (g : Tap → ℤ) (E : ℕ) → ((t : Tap) → nat_abs (g t) ≤ E) → nat_abs (Σ∈ ts (λ t. pos t.weight *ℤ g t)) ≤ weights ts * E
taps_abs [] g E h = omega arith
taps_abs (t ∷ ts) g E h =
    let one = unsigned_abs-mul (pos t.weight) (g t) in
    let times = mul-le-mul_left t.weight (h t) in
    let more = taps_abs ts g E h in
    let both = abs_add (pos t.weight *ℤ g t) (Σ∈ ts (λ t. pos t.weight *ℤ g t)) in
    rw (sum_by-cons (λ (t : Tap). t.weight) t ts) (omega arith)

-- at a done cell
pub error_at_done : (p : Page) (e : ℕ → ℤ) (n r c : ℕ) → r < p.height → c < p.width → number p r c < n → error_at p e n (pos r) (pos c) ≡ e (number p r c)
unfolding error_at valued cell_at
error_at_done p e n r c h l d = grind arith

pub pending_abs : (p : Page) (K : Shape) (s : Trace) (n m E : ℕ) → 1 ≤ p.width → m < cells p → ((j : ℕ) → j < n → nat_abs (s.error j) ≤ E) → nat_abs (pending p K s n m) ≤ weights K.taps * E
pending_abs p K s n m E w l small =
    rw (pending_is p K s n m w l)
    (taps_abs K.taps (λ t. sender p s.error n t (pos (row p m)) (pos (column p m))) E (λ t. error_at_abs p s.error n E small _ _))
