-- The ledger balances. Each cell adds as much to taken as to the other six accounts together; carried falls by A and grows by what the cell sends to the page and by the rest it hands on.
use Rattle.std.proofs.Common.{◌≡◌, ℕ, suc, ◌<◌, ◌≤◌, Bool, not, List, [], ◌∷◌, ℤ, pos, ◌+ℤ◌, ◌-ℤ◌, ◌*ℤ◌, Some, Option, refl, ap, ◌∙◌, arith}
use borrow.Author.Differences.{ints}
use Rattle.std.proofs.lemmas.List.Sums.{sum_by-cons}
use Rattle.ledger.specs.Sums.{Σ∈, given}
use Rattle.kernel.specs.declared.tap.Tap.{Tap}
use Rattle.ledger.specs.Page.{Page, aimed, hits, waits, off}
use Rattle.ledger.specs.Ledger.{Trace, D, shares, sent, ends_row, in_hand, pending, sum, quotient, wanted, used, Diffused, taken, laid, carried, edge, kernel, rounding, clipped}
use Rattle.kernel.specs.Rules.{Shape, weights}
use Rattle.ledger.specs.Laws.{Balanced}
use Rattle.ledger.proofs.Kernels.{EachAhead, Sound}
use Rattle.ledger.proofs.Ring.{mul_add, mul_sub, sub_mul, add_mul}
use Rattle.ledger.proofs.Sums.{ΣExt, ΣAdd, ΣSix, ΣTelescope, Σ∈Ext, Σ∈Add}
use Rattle.ledger.proofs.Page.{aims_later}

-- what waits for the cells from n on waits for n, or for those after it
waits_split : (o : Option ℕ) (n : ℕ) (z : ℤ) → given (waits n o) z ≡ given (hits n o) z +ℤ given (waits (suc n) o) z
waits_split o n z = grind (arith, ints)

-- a tap of cell n aims at a later cell of the page, or off the page
on_or_off : (o : Option ℕ) (n : ℕ) (z : ℤ) → ((m : ℕ) → o ≡ Some m → n < m) → given (waits (suc n) o) z +ℤ given (off o) z ≡ z
on_or_off o n z h = grind (arith, ints, h)

hand_or_end : (b : Bool) (z : ℤ) → given (not b) z +ℤ given b z ≡ z
hand_or_end b z = grind (arith, ints)

pub taps_on_or_off : (p : Page) (n : ℕ) (e : ℤ) (ts : List Tap) → 1 ≤ p.width → EachAhead ts →
    Σ∈ ts (λ t. given (waits (suc n) (aimed p t n)) (pos t.weight *ℤ e)) +ℤ Σ∈ ts (λ t. given (off (aimed p t n)) (pos t.weight *ℤ e)) ≡ pos (weights ts) *ℤ e
taps_on_or_off p n e [] h a = omega (arith, ints)
taps_on_or_off p n e (t ∷ ts) h a =
    let one = on_or_off (aimed p t n) n (pos t.weight *ℤ e) (λ m i. aims_later p t n m h a.0 i) in
    let more = taps_on_or_off p n e ts h a.1 in
    let both = add_mul (pos t.weight) (pos (weights ts)) e in
    rw (sum_by-cons (λ (t : Tap). t.weight) t ts) (omega (arith, ints))

-- What one cell adds to the two sides of the balance. Its taps send `on` to cells of the page and `out` off it; its rest is `hand` or `end`; carried goes from c to c'.
entry : (d x q u y e A R w on out hand end c c' : ℤ) → R ≡ A -ℤ d *ℤ q → e ≡ u -ℤ y → on +ℤ out ≡ w *ℤ e → hand +ℤ end ≡ R → c' +ℤ A ≡ c +ℤ (on +ℤ hand) →
    d *ℤ x ≡ d *ℤ y +ℤ (c' -ℤ c) +ℤ out +ℤ (d -ℤ w) *ℤ e +ℤ end +ℤ d *ℤ (x +ℤ q -ℤ u)
entry d x q u y e A R w on out hand end c c' r is taps rests more =
    let z = ap (λ z. d *ℤ z) is in
    omega (arith, ints, mul_sub d (x +ℤ q) u, mul_add d x q, sub_mul d w e, mul_sub d u y)

module _ (p : Page) (K : Shape) (s : Trace) where
  shares_split : (n j : ℕ) → shares p K s (waits n) j ≡ shares p K s (hits n) j +ℤ shares p K s (waits (suc n)) j
  unfolding sent
  shares_split n j = Σ∈Ext K.taps _ _ (λ t. waits_split (aimed p t j) n (pos t.weight *ℤ s.error j)) ∙ Σ∈Add K.taps _ _

  -- all that a cell sends goes to later cells of the page or off it
  pub shares_own : (n : ℕ) → 1 ≤ p.width → EachAhead K.taps → shares p K s (waits (suc n)) n +ℤ shares p K s off n ≡ pos (weights K.taps) *ℤ s.error n
  unfolding sent
  shares_own n h a = taps_on_or_off p n (s.error n) K.taps h a

  -- done cells keep their taps, but for those that aim at n
  pub carried_step : (n : ℕ) → carried p K s (suc n) +ℤ sum p K s n ≡ carried p K s n +ℤ (shares p K s (waits (suc n)) n +ℤ in_hand p K s (suc n))
  unfolding carried pending
  carried_step n =
      let split = ΣExt n (shares p K s (waits n)) (λ j. shares p K s (hits n) j +ℤ shares p K s (waits (suc n)) j) (λ j l. shares_split n j) in
      let parts = ΣAdd n (shares p K s (hits n)) (shares p K s (waits (suc n))) in
      omega (arith, ints)

  entered : (n : ℕ) → 1 ≤ p.width → EachAhead K.taps → s.rest n ≡ sum p K s n -ℤ D p K s *ℤ quotient p K s n → s.error n ≡ used p K s n -ℤ s.tone n →
      D p K s *ℤ s.sample n ≡ D p K s *ℤ s.tone n +ℤ (carried p K s (suc n) -ℤ carried p K s n) +ℤ shares p K s off n +ℤ (D p K s -ℤ pos (weights K.taps)) *ℤ s.error n +ℤ given (ends_row p n) (s.rest n) +ℤ D p K s *ℤ (wanted p K s n -ℤ used p K s n)
  unfolding in_hand
  entered n w a r e = entry (D p K s) (s.sample n) (quotient p K s n) (used p K s n) (s.tone n) (s.error n) (sum p K s n) (s.rest n) (pos (weights K.taps))
      (shares p K s (waits (suc n)) n) (shares p K s off n) (in_hand p K s (suc n)) (given (ends_row p n) (s.rest n)) (carried p K s n) (carried p K s (suc n))
      r e (shares_own n w a) (hand_or_end (ends_row p n) (s.rest n)) (carried_step n)

  none_carried : carried p K s 0 ≡ pos 0
  unfolding carried in_hand
  none_carried = refl

pub balanced : (p : Page) (K : Shape) (s : Trace) (n : ℕ) → 1 ≤ p.width → Sound K → Diffused p K s n → Balanced p K s n
unfolding taken laid edge kernel rounding clipped
balanced p K s n w k d =
    ΣExt n _ _ (λ j l. entered p K s j w k.each_ahead (d.rests j l) (d.errors j l))
    ∙ ΣSix n (λ j. D p K s *ℤ s.tone j) (λ j. carried p K s (suc j) -ℤ carried p K s j) (shares p K s off) (λ j. (D p K s -ℤ pos (weights K.taps)) *ℤ s.error j) (λ j. given (ends_row p j) (s.rest j)) (λ j. D p K s *ℤ (wanted p K s j -ℤ used p K s j))
    ∙ rw (ΣTelescope n (carried p K s), none_carried) (omega (arith, ints))
