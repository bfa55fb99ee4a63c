-- What a cell sends: from tap to tap, to which cells, and how much at most.
use Rattle.std.proofs.Common.{◌≡◌, ℕ, zero, suc, ◌+◌, ◌*◌, ◌<◌, ◌≤◌, Bool, true, List, [], ◌∷◌, length, get_or, take, ℤ, pos, ◌+ℤ◌, ◌*ℤ◌, nat_abs, Option, refl, ⊎_elim, mul-le-mul_right, mul-le-mul_left, arith}
use borrow.Author.Differences.{ints}
use Rattle.std.proofs.lemmas.Bool.{cases_lt}
use Rattle.std.proofs.lemmas.Int.{unsigned_abs-mul}
use Rattle.std.proofs.lemmas.List.Sums.{sum_by-take-le, sum_by-cons}
use Rattle.kernel.specs.declared.tap.Tap.{Tap}
use Rattle.kernel.specs.Rules.{Shape, weights}
use Rattle.ledger.specs.Sums.{Σ∈, given}
use Rattle.ledger.specs.Page.{Page, cells, row, aimed, hits}
use Rattle.ledger.specs.Ledger.{Trace, sent, shares, pending}
use Rattle.ledger.proofs.Ring.{abs_add}
use Rattle.ledger.proofs.Sums.{given_abs, ΣZero}
use Rattle.ledger.proofs.Page.{aimed_out, aims_later}
use Rattle.ledger.proofs.Kernels.{EachAhead, EachReaches}
use Rattle.ledger.proofs.Senders.{hits_some, pending_abs}

-- ---- from tap to tap
pub sent_more : (p : Page) (ts : List Tap) (test : Option ℕ → Bool) (j : ℕ) (e : ℤ) (i : ℕ) (t : Tap) → i < length ts →
    sent p (take (suc i) ts) test j e ≡ sent p (take i ts) test j e +ℤ given (test (aimed p (get_or ts i t) j)) (pos (get_or ts i t).weight *ℤ e)
unfolding sent
sent_more p [] test j e i t l = absurd (omega arith)
sent_more p (s ∷ ts) test j e zero t l = omega (arith, ints)
sent_more p (s ∷ ts) test j e (suc i) t l = omega (arith, ints, sent_more p ts test j e i t (omega arith))

-- ---- where no tap passes the test, nothing is sent
abbrev NoneAims : Page → (Option ℕ → Bool) → ℕ → List Tap → Type 0
NoneAims p test j [] = Unit {0}
NoneAims p test j (t ∷ ts) = (test (aimed p t j) ≡ true → ⊥) × NoneAims p test j ts

none_sent : (p : Page) (ts : List Tap) (test : Option ℕ → Bool) (j : ℕ) (e : ℤ) → NoneAims p test j ts → sent p ts test j e ≡ pos 0
unfolding sent
none_sent p [] test j e n = refl
none_sent p (t ∷ ts) test j e n = let no = n.0 in let more = none_sent p ts test j e n.1 in grind (arith, ints)

-- nothing to an earlier cell or the cell itself
pub none_back : (p : Page) (ts : List Tap) (j m : ℕ) (e : ℤ) → 1 ≤ p.width → EachAhead ts → m ≤ j → sent p ts (hits m) j e ≡ pos 0
none_back p ts j m e w a l = none_sent p ts (hits m) j e (go ts a)
  where
    go : (ts : List Tap) → EachAhead ts → NoneAims p (hits m) j ts
    go [] a = tt
    go (t ∷ ts) a = ((λ y. let b = aims_later p t j m w a.0 (hits_some m (aimed p t j) y) in omega arith), go ts a.1)

-- nothing further down than the taps reach
pub none_far : (p : Page) (ts : List Tap) (j m L : ℕ) (e : ℤ) → EachReaches L ts → row p j + L < row p m → sent p ts (hits m) j e ≡ pos 0
none_far p ts j m L e near far = none_sent p ts (hits m) j e (go ts near)
  where
    go : (ts : List Tap) → EachReaches L ts → NoneAims p (hits m) j ts
    go [] a = tt
    go (t ∷ ts) a = ((λ y. let b = (aimed_out p t j m (hits_some m (aimed p t j) y)).0 in let c = a.0 in omega arith), go ts a.1)

-- nothing to a number past the page
none_past : (p : Page) (ts : List Tap) (j m : ℕ) (e : ℤ) → cells p ≤ m → sent p ts (hits m) j e ≡ pos 0
none_past p ts j m e far = none_sent p ts (hits m) j e (go ts)
  where
    go : (ts : List Tap) → NoneAims p (hits m) j ts
    go [] = tt
    go (t ∷ ts) = ((λ y. let b = (aimed_out p t j m (hits_some m (aimed p t j) y)).2 in omega arith), go ts)

pub far_pending : (p : Page) (K : Shape) (s : Trace) (n m L : ℕ) → EachReaches L K.taps → ((j : ℕ) → j < n → row p j + L < row p m) → pending p K s n m ≡ pos 0
unfolding pending
far_pending p K s n m L near far = ΣZero n _ (λ j l. none_far p K.taps j m L (s.error j) near (far j l))

-- ---- sizes
pub sent_abs : (p : Page) (ts : List Tap) (test : Option ℕ → Bool) (j : ℕ) (e : ℤ) → nat_abs (sent p ts test j e) ≤ weights ts * nat_abs e
unfolding sent
sent_abs p [] test j e = omega arith
sent_abs p (t ∷ ts) test j e =
    let more = sent_abs p ts test j e in
    let both = abs_add (given (test (aimed p t j)) (pos t.weight *ℤ e)) (Σ∈ ts (λ t. given (test (aimed p t j)) (pos t.weight *ℤ e))) in
    let one = given_abs (test (aimed p t j)) (pos t.weight *ℤ e) (t.weight * nat_abs e) (omega (arith, unsigned_abs-mul (pos t.weight) e)) in
    rw (sum_by-cons (λ (t : Tap). t.weight) t ts) (omega arith)

-- by the first i taps
pub sent_take_abs : (p : Page) (ts : List Tap) (test : Option ℕ → Bool) (j : ℕ) (e : ℤ) (i W E : ℕ) → weights ts ≤ W → nat_abs e ≤ E → nat_abs (sent p (take i ts) test j e) ≤ W * E
sent_take_abs p ts test j e i W E h l =
    let a = sent_abs p (take i ts) test j e in
    let b = mul-le-mul_right (nat_abs e) (sum_by-take-le (λ (t : Tap). t.weight) ts i) in
    let c = mul-le-mul_right (nat_abs e) h in
    let d = mul-le-mul_left W l in
    omega arith

pub sent_small : (p : Page) (ts : List Tap) (test : Option ℕ → Bool) (j : ℕ) (e : ℤ) (W E : ℕ) → weights ts ≤ W → nat_abs e ≤ E → nat_abs (sent p ts test j e) ≤ W * E
sent_small p ts test j e W E h l =
    let a = sent_abs p ts test j e in
    let c = mul-le-mul_right (nat_abs e) h in
    let d = mul-le-mul_left W l in
    omega arith

-- each tap has at most one cell from which it aims at m
pub pending_small : (p : Page) (K : Shape) (s : Trace) (n m E : ℕ) → 1 ≤ p.width → ((j : ℕ) → j < n → nat_abs (s.error j) ≤ E) → nat_abs (pending p K s n m) ≤ weights K.taps * E
unfolding pending
pending_small p K s n m E w small = ⊎_elim
    (λ l. pending_abs p K s n m E w l small)
    (λ l. rw (ΣZero n (shares p K s (hits m)) (λ j i. none_past p K.taps j m (s.error j) l)) (omega arith))
    (cases_lt m (cells p))
