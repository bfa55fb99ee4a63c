-- From cell to cell: a memory that holds the run so far, changed as one cell changes it, holds the run with that cell.
use Rattle.std.proofs.Common.{◌≡◌, ℕ, suc, ◌+◌, ◌*◌, ◌/◌, ◌%◌, ◌<◌, ◌≤◌, not, eqb, leb, ◌⊎◌, get_or, ℤ, pos, ◌+ℤ◌, ◌-ℤ◌, ◌*ℤ◌, sym, refl, ap, ◌∙◌, ap₂, arith}
use lib.Signed.{quot_z}
use borrow.Author.Differences.{ints}
use Rattle.std.proofs.lemmas.Nat.{mod_below, div-add-mod', rows}
use Rattle.kernel.specs.Rules.{Shape, weights}
use Rattle.ledger.specs.Sums.{Σ<, given}
use Rattle.ledger.specs.Page.{Page, row, column, number, hits, off}
use Rattle.ledger.specs.Ledger.{Trace, sent, shares, ends_row, in_hand, pending, sum, remainder, limited, wanted, used, carried, edge, rounding}
use Rattle.ledger.specs.Memory.{slot, kept_rows, kept_columns, Memory, awaits, Holds, Stepped, sum_of, wanted_of, rest_of, error_of}
use Rattle.ledger.proofs.Sums.{ΣExt}
use Rattle.ledger.proofs.Page.{column_below, number_of, row_number}
use Rattle.ledger.proofs.Kernels.{EachAhead, EachReaches}
use Rattle.ledger.proofs.Balance.{carried_step, shares_own}
use Rattle.ledger.proofs.Run.{Alike, same_pending, same_hand, same_sum, same_carried, same_edge}
use Rattle.ledger.proofs.Sends.{none_back, far_pending}

-- ---- rows
-- the next cell is in the same row, or is the first of the next
pub row_next : (w k : ℕ) → 1 ≤ w → ((suc k / w ≡ k / w) × (suc (k % w) < w)) ⊎ ((suc k / w ≡ suc (k / w)) × (suc (k % w) ≡ w) × (suc k ≡ suc (k / w) * w))
row_next w k h = grind (arith, rows, div-add-mod' k w, mod_below k w, div-add-mod' (suc k) w, mod_below (suc k) w)

pub row_mono : (w j k : ℕ) → 1 ≤ w → j ≤ k → j / w ≤ k / w
row_mono w j k h l = grind (arith, rows, div-add-mod' j w, div-add-mod' k w, mod_below j w h, mod_below k w h)

awaits_ahead : (p : Page) (K : Shape) (s : Trace) (n m : ℕ) → n ≤ m → awaits p K s n m ≡ pending p K s n m
unfolding awaits
awaits_ahead p K s n m l = grind arith

awaits_done : (p : Page) (K : Shape) (s : Trace) (n m : ℕ) → m < n → awaits p K s n m ≡ pos 0
unfolding awaits
awaits_done p K s n m l = grind arith

-- ---- traces with the same first n cells
abbrev pub Same : Trace → Trace → ℕ → Type 0
Same s t n = (j : ℕ) → j < n → (s.error j ≡ t.error j) × (s.rest j ≡ t.rest j) × (s.sample j ≡ t.sample j) × (s.tone j ≡ t.tone j)

module _ (p : Page) (K : Shape) (s t : Trace) (n : ℕ) (same : Same s t n) where
  alike_to : (k : ℕ) → k ≤ n → Alike s t k
  alike_to k l = λ j h. let q = same j (omega arith) in (q.0, q.1)

  same_rounding : rounding p K s n ≡ rounding p K t n
  unfolding rounding
  same_rounding = ΣExt n _ _ (λ j l. ap (given (ends_row p j)) (same j l).1)

  same_cut : Σ< n (λ k. wanted p K s k -ℤ used p K s k) ≡ Σ< n (λ k. wanted p K t k -ℤ used p K t k)
  same_cut = ΣExt n _ _ (λ j l. ap₂ (λ x a. x +ℤ quot_z a (pos K.divisor) -ℤ limited (x +ℤ quot_z a (pos K.divisor))) (same j l).2 (same_sum p K s t j (alike_to j (omega arith))))

  -- what holds one holds the other
  pub holds_same : (h : Memory) → Holds p K s n h → Holds p K t n h
  unfolding awaits
  holds_same h k =
      let alike = alike_to n (omega arith) in
      record {
        memory = λ r c l i j. k.memory r c l i j ∙ ap (given (leb n (number p r c))) (same_pending p K s t n (number p r c) alike);
        hand_is = k.hand_is ∙ same_hand p K s t n alike;
        samples_is = k.samples_is ∙ ΣExt n _ _ (λ j l. (same j l).2);
        tones_is = k.tones_is ∙ ΣExt n _ _ (λ j l. (same j l).3);
        errors_is = k.errors_is ∙ ΣExt n _ _ (λ j l. (same j l).0);
        carry_is = k.carry_is ∙ same_carried p K s t n alike;
        off_page_is = k.off_page_is ∙ same_edge p K s t n alike;
        row_ends_is = k.row_ends_is ∙ same_rounding;
        cut_is = k.cut_is ∙ same_cut;
      }

pub pending_more : (p : Page) (K : Shape) (s : Trace) (n m : ℕ) → pending p K s (suc n) m ≡ pending p K s n m +ℤ shares p K s (hits m) n
unfolding pending
pending_more p K s n m = refl

none_and : (a b : ℤ) → a ≡ pos 0 → b ≡ pos 0 → a +ℤ b ≡ pos 0
none_and a b e f = omega (arith, ints)

-- A of the next cell is what waits there with the rest in hand
pub sum_held : (p : Page) (K : Shape) → 1 ≤ p.width → (t : Trace) (k : ℕ) (h : Memory) → Holds p K t k h → sum_of p k h ≡ sum p K t k
sum_held p K w t k h held =
    let waits = held.memory (row p k) (column p k) (column_below p k w) (omega arith) (omega arith) in
    let is = awaits_ahead p K t k k (omega arith) in
    let here = number_of p k w in
    let hand = held.hand_is in
    cc

-- ---- one cell: t is by the rules at cell k, where the memory h becomes h'
module _ (p : Page) (K : Shape) (L : ℕ) (w : 1 ≤ p.width) (later : EachAhead K.taps) (near : EachReaches L K.taps) (few : L < kept_rows) (t : Trace) (k : ℕ)
    (rest : t.rest k ≡ remainder p K t k) (error : t.error k ≡ used p K t k -ℤ t.tone k)
    (a : ℤ) (h h' : Memory) (held : Holds p K t k h) (done : Stepped p K k (t.sample k) (t.tone k) a h h') where
  a_is : a ≡ sum p K t k
  a_is = done.sum_is ∙ sum_held p K w t k h held

  e_is : error_of K (t.sample k) (t.tone k) a ≡ t.error k
  e_is = ap (error_of K (t.sample k) (t.tone k)) a_is ∙ sym error

  r_is : rest_of K a ≡ t.rest k
  r_is = ap (rest_of K) a_is ∙ sym rest

  hand_next : h'.hand ≡ in_hand p K t (suc k)
  unfolding in_hand
  hand_next = done.hand_is ∙ ap (given (not (ends_row p k))) r_is

  -- the places of done cells are cleared
  zero_at : (r c : ℕ) → c < p.width → row p k ≤ r → r < row p k + kept_rows → number p r c ≤ k → get_or h'.waiting (slot r c) (pos 0) ≡ pos 0
  zero_at r c l i j m = done.memory r c l i j ∙ none_and (given (not (eqb (number p r c) k)) (get_or h.waiting (slot r c) (pos 0))) (sent p K.taps (hits (number p r c)) k (error_of K (t.sample k) (t.tone k) a))
      (let is = held.memory r c l i j in grind (arith, ints, awaits_done p K t k (number p r c)))
      (none_back p K.taps k (number p r c) _ w later m)

  more_at : (r c : ℕ) → c < p.width → row p k ≤ r → r < row p k + kept_rows → suc k ≤ number p r c → get_or h'.waiting (slot r c) (pos 0) ≡ pending p K t (suc k) (number p r c)
  more_at r c l i j m =
      let is = held.memory r c l i j in
      let next = done.memory r c l i j in
      let more = pending_more p K t k (number p r c) in
      let sends = ap (sent p K.taps (hits (number p r c)) k) e_is in
      grind (arith, ints, awaits_ahead p K t k (number p r c))

  in_rows : (r c : ℕ) → c < p.width → row p k ≤ r → r < row p k + kept_rows → get_or h'.waiting (slot r c) (pos 0) ≡ awaits p K t (suc k) (number p r c)
  in_rows r c l i j = grind (arith, zero_at r c l i j, more_at r c l i j, awaits_done p K t (suc k) (number p r c), awaits_ahead p K t (suc k) (number p r c))

  -- the row that takes the places of one that is all done
  new_row : (c : ℕ) → c < p.width → suc k / p.width ≡ suc (row p k) → get_or h'.waiting (slot (row p k + kept_rows) c) (pos 0) ≡ awaits p K t (suc k) (number p (row p k + kept_rows) c)
  new_row c l q =
      let x = row_number p (row p k) c l in
      let y = row_number p (row p k + kept_rows) c l in
      let small : number p (row p k) c ≤ k = grind (arith, row_mono p.width (suc k) (number p (row p k) c) w) in
      let big : suc k ≤ number p (row p k + kept_rows) c = grind (arith, row_mono p.width (number p (row p k + kept_rows) c) k w) in
      ap (λ i. get_or h'.waiting (i * kept_columns + c) (pos 0)) (wraps (row p k)) ∙ zero_at (row p k) c l (omega arith) (omega arith) small
      ∙ sym (awaits_ahead p K t (suc k) (number p (row p k + kept_rows) c) big ∙ far_pending p K t (suc k) (number p (row p k + kept_rows) c) L near (λ j i. let m = row_mono p.width j k w (omega arith) in omega arith))
    where
      wraps : (r : ℕ) → (r + kept_rows) % kept_rows ≡ r % kept_rows
      wraps r = omega arith

  memory_next : (r c : ℕ) → c < p.width → row p (suc k) ≤ r → r < row p (suc k) + kept_rows → get_or h'.waiting (slot r c) (pos 0) ≡ awaits p K t (suc k) (number p r c)
  memory_next r c l i j = let n = row_next p.width k w in let at = in_rows r c l in let new = new_row c l in grind arith

  carry_next : h'.carry ≡ carried p K t (suc k)
  carry_next =
      let is : h'.carry ≡ carried p K t k -ℤ sum p K t k +ℤ (pos (weights K.taps) *ℤ t.error k -ℤ shares p K t off k) +ℤ in_hand p K t (suc k) =
      let a = done.carry_is in let b = held.carry_is in let c = a_is in let d = e_is in let e = hand_next in cc in
      omega (arith, ints, is, carried_step p K t k, shares_own p K t k w later)

  off_page_next : h'.off_page ≡ edge p K t (suc k)
  unfolding edge
  off_page_next = let a = done.off_page_is in let b = held.off_page_is in let c = e_is in cc

  row_ends_next : h'.row_ends ≡ rounding p K t (suc k)
  unfolding rounding
  row_ends_next = let a = done.row_ends_is in let b = held.row_ends_is in let c = r_is in cc

  pub holds_on : Holds p K t (suc k) h'
  holds_on = record {
    memory = memory_next;
    hand_is = hand_next;
    samples_is = done.samples_is ∙ ap (λ z. z +ℤ t.sample k) held.samples_is;
    tones_is = done.tones_is ∙ ap (λ z. z +ℤ t.tone k) held.tones_is;
    errors_is = done.errors_is ∙ ap₂ (λ a e. a +ℤ e) held.errors_is e_is;
    carry_is = carry_next;
    off_page_is = off_page_next;
    row_ends_is = row_ends_next;
    cut_is = done.cut_is ∙ ap₂ (λ c a. c +ℤ (wanted_of K (t.sample k) a -ℤ limited (wanted_of K (t.sample k) a))) held.cut_is a_is;
  }
