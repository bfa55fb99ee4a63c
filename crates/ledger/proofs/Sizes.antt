-- How large the numbers of a cell and the numbers kept can get.
use Rattle.std.proofs.Common.{ℕ, ◌+◌, ◌-◌, ◌*◌, ◌^◌, ◌<◌, ◌≤◌, Bool, leb, length, ℤ, pos, ◌-ℤ◌, nat_abs, Option, mul-le-mul_right, arith}
use borrow.Author.Differences.{ints}
use Rattle.std.proofs.lemmas.Nat.{mul-le}
use Rattle.kernel.specs.Rules.{Shape, weights}
use Rattle.ledger.specs.Sums.{Σ<, given}
use Rattle.ledger.specs.Page.{Page, number, waits, off}
use Rattle.ledger.specs.Ledger.{Trace, shares, ends_row, in_hand, pending, sum, quotient, limited, wanted, used, Diffused, carried, edge, rounding}
use Rattle.ledger.specs.Dots.{samples, channel}
use Rattle.ledger.specs.Laws.{Between}
use Rattle.ledger.specs.Memory.{Memory, awaits, Holds, SmallCell, Small, Sizes}
use Rattle.ledger.proofs.Ring.{abs_add}
use Rattle.ledger.proofs.Sums.{given_abs, ΣAbs}
use Rattle.ledger.proofs.Kernels.{Sound, sound}
use Rattle.ledger.proofs.Bounds.{rest_small, quotient_abs, limited_errors, rests_small, hand_small}
use Rattle.ledger.proofs.Sends.{sent_small, pending_small}
use Rattle.ledger.proofs.Run.{met}
use Rattle.ledger.proofs.Laws.{tone_byte, sample_byte}

sum_in : (n B : ℕ) (f : ℕ → ℤ) → n ≤ 2 ^ 23 → ((k : ℕ) → k < n → nat_abs (f k) ≤ B) → nat_abs (Σ< n f) ≤ 2 ^ 23 * B
sum_in n B f h l = let a = ΣAbs n B f l in let b = mul-le-mul_right B h in omega arith

byte_in : (z : ℤ) → Between (pos 0) (pos 255) z → nat_abs z ≤ 255
byte_in z b = omega (arith, ints, b.0, b.1)

cut_in : (v : ℤ) → nat_abs v ≤ 765 → nat_abs (v -ℤ limited v) ≤ 1275
cut_in v h = grind (arith, ints)

module _ (p : Page) (K : Shape) (s : Trace) (n : ℕ) (w : 1 ≤ p.width) (k : Sound K) (far : n ≤ 2 ^ 23) (done : Diffused p K s n)
    (samples : (j : ℕ) → j < n → Between (pos 0) (pos 255) (s.sample j)) (tones : (j : ℕ) → j < n → Between (pos 0) (pos 255) (s.tone j)) where
  errors : (j : ℕ) → j < n → nat_abs (s.error j) ≤ 510
  errors j l = limited_errors p K s n j done l (tones j l)

  heavy : weights K.taps ≤ 256
  heavy = omega (arith, k.at_most, k.small_divisor)

  pending_in : (m j : ℕ) → m ≤ n → nat_abs (pending p K s m j) ≤ weights K.taps * 510
  pending_in m j l = pending_small p K s m j 510 w (λ i h. errors i (omega arith))

  pending_byte : (m j : ℕ) → m ≤ n → nat_abs (pending p K s m j) ≤ 256 * 510
  pending_byte m j l = let b = pending_in m j l in let c = mul-le-mul_right 510 heavy in omega arith

  hand_in : (m : ℕ) → m ≤ n → nat_abs (in_hand p K s m) ≤ K.divisor - 1
  hand_in m l = hand_small p K s n m k.some_divisor done l

  shares_in : (test : Option ℕ → Bool) (j : ℕ) → j < n → nat_abs (shares p K s test j) ≤ 256 * 510
  shares_in test j l = sent_small p K.taps test j (s.error j) 256 510 heavy (errors j l)

  quotient_in : (j : ℕ) → j < n → nat_abs (quotient p K s j) ≤ 510
  quotient_in j l =
      let a = pending_in j j (omega arith) in
      let b = hand_in j (omega arith) in
      let c = mul-le-mul_right 510 k.at_most in
      quotient_abs K.divisor (sum p K s j) 510 k.some_divisor (omega (arith, abs_add (pending p K s j j) (in_hand p K s j)))

  wanted_in : (j : ℕ) → j < n → nat_abs (wanted p K s j) ≤ 765
  wanted_in j l = omega (arith, abs_add (s.sample j) (quotient p K s j), byte_in (s.sample j) (samples j l), quotient_in j l)

  pub small_cell : (j : ℕ) → j < n → SmallCell p K s j
  small_cell j l = record {
    sum = omega (arith, abs_add (pending p K s j j) (in_hand p K s j), pending_byte j j (omega arith), hand_in j (omega arith), k.small_divisor);
    remainder = omega (arith, rest_small K.divisor (sum p K s j) k.some_divisor, k.small_divisor, k.some_divisor);
    wanted = omega (arith, wanted_in j l);
  }

  carry_in : nat_abs (carried p K s n) ≤ 2 ^ 23 * (256 * 510) + 255
  unfolding carried
  carry_in = omega (arith, abs_add (Σ< n (shares p K s (waits n))) (in_hand p K s n), sum_in n (256 * 510) (shares p K s (waits n)) far (λ j l. shares_in (waits n) j l), hand_in n (omega arith), k.small_divisor)

  edge_in : nat_abs (edge p K s n) ≤ 2 ^ 23 * (256 * 510)
  unfolding edge
  edge_in = sum_in n (256 * 510) (shares p K s off) far (λ j l. shares_in off j l)

  rounding_in : nat_abs (rounding p K s n) ≤ 2 ^ 23 * 255
  unfolding rounding
  rounding_in = sum_in n 255 (λ j. given (ends_row p j) (s.rest j)) far (λ j l. given_abs (ends_row p j) (s.rest j) 255 (omega (arith, rests_small p K s n k.some_divisor done j l, k.small_divisor)))

  pub small : (h : Memory) → Holds p K s n h → Small p n h
  unfolding awaits
  small h hold = record {
    memory = λ r c l i j. rw (hold.memory r c l i j) (omega (arith, given_abs (leb n (number p r c)) (pending p K s n (number p r c)) (256 * 510) (pending_byte n (number p r c) (omega arith))));
    hand = rw hold.hand_is (omega (arith, hand_in n (omega arith), k.small_divisor, k.some_divisor));
    samples = rw hold.samples_is (omega (arith, sum_in n 255 s.sample far (λ j l. byte_in (s.sample j) (samples j l))));
    tones = rw hold.tones_is (omega (arith, sum_in n 255 s.tone far (λ j l. byte_in (s.tone j) (tones j l))));
    errors = rw hold.errors_is (omega (arith, sum_in n 510 s.error far (λ j l. errors j l)));
    carry = rw hold.carry_is (omega (arith, carry_in));
    off_page = rw hold.off_page_is (omega (arith, edge_in));
    row_ends = rw hold.row_ends_is (omega (arith, rounding_in));
    cut = rw hold.cut_is (omega (arith, sum_in n 1275 (λ j. wanted p K s j -ℤ used p K s j) far (λ j l. cut_in (wanted p K s j) (wanted_in j l))));
  }

pub sizes : Sizes
sizes S xs w slim high fair c l =
    let far : length xs ≤ 2 ^ 23 = omega (arith, mul-le S.page.width S.page.height 1024 8192 slim high, fair.page) in
    let k = sound S.kernel fair.kernel in
    let d = (met S (samples xs) (length xs)).diffused c l in
    let x : (j : ℕ) → j < length xs → Between (pos 0) (pos 255) ((channel S xs c).sample j) = λ j h. sample_byte S xs fair c j l h in
    let y : (j : ℕ) → j < length xs → Between (pos 0) (pos 255) ((channel S xs c).tone j) = λ j h. tone_byte S xs fair c j l in
    (small_cell S.page S.kernel (channel S xs c) (length xs) w k far d x y, small S.page S.kernel (channel S xs c) (length xs) w k far d x y)
