-- The size of errors and rests. Each tap has at most one sender, so |A| is at most W × E + (D - 1) where all errors before are within E; then |q| is at most E, u stays where the spread holds, and the next error is within E too.
use Rattle.std.proofs.Common.{◌≡◌, ℕ, zero, suc, ◌+◌, ◌-◌, ◌*◌, ◌<◌, ◌≤◌, not, ℤ, pos, negsuc, ◌+ℤ◌, ◌-ℤ◌, ◌*ℤ◌, nat_abs, ◌≤ℤ◌, add-one, mul-le-mul_right, arith}
use lib.Signed.{quot_z, rem_z}
use borrow.Author.Differences.{ints}
use borrow.Author.Count.{below_more}
use Rattle.std.proofs.lemmas.Int.{quot-rem, rem_below}
use Rattle.std.proofs.lemmas.Nat.{div_below}
use Rattle.ledger.specs.Page.{Page, cells, row, column}
use Rattle.ledger.specs.Ledger.{Trace, ends_row, in_hand, pending, sum, quotient, limited, wanted, used, Diffused, clipped}
use Rattle.kernel.specs.Rules.{Shape, weights}
use Rattle.ledger.specs.Laws.{Between}
use Rattle.ledger.proofs.Kernels.{Sound}
use Rattle.ledger.proofs.Ring.{mul_sub, abs_add}
use Rattle.ledger.proofs.Sums.{given_abs, ΣZero}
use Rattle.ledger.proofs.Senders.{error_at_abs, brought_is, taps_abs, sender}

-- division toward zero, and the rest by Rust's `%`
pub rem_is : (d : ℕ) (a : ℤ) → rem_z a (pos d) ≡ a -ℤ pos d *ℤ quot_z a (pos d)
rem_is d a = omega (arith, ints, quot-rem a (pos d))

pub rest_small : (d : ℕ) (a : ℤ) → 1 ≤ d → nat_abs (a -ℤ pos d *ℤ quot_z a (pos d)) ≤ d - 1
rest_small d a h = rw (← rem_is d a) (omega (arith, rem_below a (pos d) h))

pub quotient_abs : (d : ℕ) (a : ℤ) (E : ℕ) → 1 ≤ d → nat_abs a ≤ d * E + (d - 1) → nat_abs (quot_z a (pos d)) ≤ E
quotient_abs d a E h l = grind (arith, ints, div_below)

-- the limits
pub limited_in : (v : ℤ) → negsuc 254 ≤ℤ v → v ≤ℤ pos 510 → limited v ≡ v
limited_in v l m = grind (arith, ints)

pub limited_between : (v : ℤ) → (negsuc 254 ≤ℤ limited v) × (limited v ≤ℤ pos 510)
limited_between v = grind (arith, ints)

pub limited_errors : (p : Page) (K : Shape) (s : Trace) (n k : ℕ) → Diffused p K s n → k < n → Between (pos 0) (pos 255) (s.tone k) → nat_abs (s.error k) ≤ 510
limited_errors p K s n k d l t =
    let b = limited_between (wanted p K s k) in
    rw (d.errors k l) (omega (arith, ints, b.0, b.1, t.0, t.1))

module _ (p : Page) (K : Shape) (s : Trace) where
  pub rests_small : (n : ℕ) → 1 ≤ K.divisor → Diffused p K s n → (k : ℕ) → k < n → nat_abs (s.rest k) ≤ K.divisor - 1
  rests_small n h d k l = rw (d.rests k l) (rest_small K.divisor (sum p K s k) h)

  pub hand_small : (n k : ℕ) → 1 ≤ K.divisor → Diffused p K s n → k ≤ n → nat_abs (in_hand p K s k) ≤ K.divisor - 1
  unfolding in_hand
  hand_small n zero h d l = omega arith
  hand_small n (suc k) h d l = given_abs (not (ends_row p k)) (s.rest k) (K.divisor - 1) (rests_small n h d k l)

  -- what a cell is given to add is at most E where all errors before it are
  quotient_small : (n k E : ℕ) → 1 ≤ p.width → Sound K → n ≤ cells p → Diffused p K s n → k < n → ((j : ℕ) → j < k → nat_abs (s.error j) ≤ E) → nat_abs (quotient p K s k) ≤ E
  quotient_small n k E w sound m d l small =
      let one = sound.some_divisor in
      let taps : nat_abs (pending p K s k k) ≤ weights K.taps * E =
      rw (brought_is p K s k k w sound.each_ahead (omega arith) (omega arith))
      (taps_abs K.taps (λ t. sender p s.error k t (pos (row p k)) (pos (column p k))) E (λ t. error_at_abs p s.error k E small _ _)) in
      let hand = hand_small n k one d (omega arith) in
      let less = mul-le-mul_right E sound.at_most in
      quotient_abs K.divisor (sum p K s k) E one (omega (arith, abs_add (pending p K s k k) (in_hand p K s k)))

reach : (x q lo hi : ℤ) (E : ℕ) → Between lo hi x → nat_abs q ≤ E → Between (lo -ℤ pos E) (hi +ℤ pos E) (x +ℤ q)
reach x q lo hi E t h = omega (arith, ints, t.0, t.1)

room : (v lo hi : ℤ) (E : ℕ) → pos 0 ≤ℤ lo → hi ≤ℤ pos 255 → E ≤ 255 → Between (lo -ℤ pos E) (hi +ℤ pos E) v → (negsuc 254 ≤ℤ v) × (v ≤ℤ pos 510)
room v lo hi E a b c r = omega (arith, ints, r.0, r.1)

-- N channels over the first n cells, whose samples lie in lo .. hi, laid by an ink set of spread E for these bounds: where every channel of u lies in lo - E .. hi + E, the ink laid is within E of u in every channel.
pub record Ranged (p : Page) (K : Shape) (N : ℕ) (s : ℕ → Trace) (n : ℕ) (lo hi : ℤ) (E : ℕ) : Type 0 where
  pub page : (1 ≤ p.width) × (n ≤ cells p)
  pub sound : Sound K
  pub diffused : (c : ℕ) → c < N → Diffused p K (s c) n
  pub samples : (c k : ℕ) → c < N → k < n → Between lo hi ((s c).sample k)
  pub tones : (pos 0 ≤ℤ lo) × (hi ≤ℤ pos 255) × (E ≤ 255)
  pub spread : (k : ℕ) → k < n → ((c : ℕ) → c < N → Between (lo -ℤ pos E) (hi +ℤ pos E) (used p K (s c) k)) → (c : ℕ) → c < N → nat_abs (used p K (s c) k -ℤ (s c).tone k) ≤ E

module _ (p : Page) (K : Shape) (N : ℕ) (s : ℕ → Trace) (n : ℕ) (lo hi : ℤ) (E : ℕ) (run : Ranged p K N s n lo hi E) where
  Small : ℕ → Type 0
  Small m = (c : ℕ) → c < N → (j : ℕ) → j < m → nat_abs ((s c).error j) ≤ E

  reaches : (k : ℕ) → k < n → Small k → (c : ℕ) → c < N → Between (lo -ℤ pos E) (hi +ℤ pos E) (wanted p K (s c) k)
  unfolding Small
  reaches k l small c h = reach ((s c).sample k) (quotient p K (s c) k) lo hi E (run.samples c k h l)
      (quotient_small p K (s c) n k E run.page.0 run.sound run.page.1 (run.diffused c h) l (small c h))

  unlimited : (k : ℕ) → k < n → Small k → (c : ℕ) → c < N → used p K (s c) k ≡ wanted p K (s c) k
  unlimited k l small c h =
      let t = run.tones in
      let r = room (wanted p K (s c) k) lo hi E t.0 t.1 t.2 (reaches k l small c h) in
      limited_in (wanted p K (s c) k) r.0 r.1

  all_small : (m : ℕ) → m ≤ n → Small m
  unfolding Small
  all_small zero l = λ c h j i. absurd (omega arith)
  all_small (suc m) l =
      let before = all_small m (omega arith) in
      let now : (c : ℕ) → c < N → nat_abs ((s c).error m) ≤ E = λ c h.
      rw ((run.diffused c h).errors m l) (run.spread m l (λ c h. rw (unlimited m l before c h) (reaches m l before c h)) c h) in
      λ c h. rw (← add-one) (below_more (λ j. nat_abs ((s c).error j) ≤ E) m (before c h) (now c h))

  pub unclipped : (c : ℕ) → c < N → (k : ℕ) → k < n → used p K (s c) k ≡ wanted p K (s c) k
  unclipped c h k l = unlimited k l (all_small k (omega arith)) c h

  none_clipped : (c : ℕ) → c < N → clipped p K (s c) n ≡ pos 0
  unfolding clipped
  none_clipped c h = ΣZero n _ (λ k l. rw (unclipped c h k l) (omega (arith, ints, mul_sub (pos K.divisor) (wanted p K (s c) k) (wanted p K (s c) k))))

pub bounded : (p : Page) (K : Shape) (N : ℕ) (s : ℕ → Trace) (n : ℕ) (lo hi : ℤ) (E : ℕ) → Ranged p K N s n lo hi E →
    (c : ℕ) → c < N → ((k : ℕ) → k < n → nat_abs ((s c).error k) ≤ E) × (clipped p K (s c) n ≡ pos 0)
unfolding Small
bounded p K N s n lo hi E run c h = (all_small p K N s n lo hi E run n (omega arith) c h, none_clipped p K N s n lo hi E run c h)
