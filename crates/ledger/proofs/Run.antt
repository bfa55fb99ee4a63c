-- A cell depends only on the cells before it. So the run that is computed follows the rules, and no other run does.
use Rattle.std.proofs.Common.{◌≡◌, ℕ, zero, suc, ◌<◌, ◌≤◌, not, length, get_or, ℤ, pos, ◌+ℤ◌, ◌-ℤ◌, ◌*ℤ◌, sym, refl, ap, ◌∙◌, ap₂, add-one, arith, length-append}
use borrow.Author.Count.{below_more}
use lib.Signed.{quot_z}
use Rattle.std.proofs.lemmas.Grind.{common_steps}
use Rattle.std.proofs.lemmas.List.FromFn.{length-map-range_with_len, get_or-map-range_with_len, fill_by_all}
use Rattle.kernel.specs.Rules.{Shape}
use Rattle.ledger.specs.Sums.{given}
use Rattle.ledger.specs.Page.{Page, hits, waits, off}
use Rattle.ledger.specs.Ledger.{Trace, sent, ends_row, in_hand, pending, sum, remainder, limited, used, carried, edge}
use Rattle.ledger.specs.Dots.{Setup, blank, each, values, so_far, next, dots, ink_of, run}
use Rattle.ledger.specs.Follows.{Follows, Met, Agree, Fixed}
use Rattle.ledger.proofs.Sums.{ΣExt}

-- ---- one channel: what the rules say of a cell, where errors and rests before it are the same
abbrev pub Alike : Trace → Trace → ℕ → Type 0
Alike s t n = (j : ℕ) → j < n → (s.error j ≡ t.error j) × (s.rest j ≡ t.rest j)

module _ (p : Page) (K : Shape) (s t : Trace) where
  pub same_pending : (n m : ℕ) → Alike s t n → pending p K s n m ≡ pending p K t n m
  unfolding pending
  same_pending n m h = ΣExt n _ _ (λ j l. ap (sent p K.taps (hits m) j) (h j l).0)

  pub same_hand : (n : ℕ) → Alike s t n → in_hand p K s n ≡ in_hand p K t n
  unfolding in_hand
  same_hand zero h = refl
  same_hand (suc k) h = ap (given (not (ends_row p k))) (h k (omega arith)).1

  pub same_sum : (k : ℕ) → Alike s t k → sum p K s k ≡ sum p K t k
  same_sum k h = ap₂ (λ a b. a +ℤ b) (same_pending k k h) (same_hand k h)

  pub same_remainder : (k : ℕ) → Alike s t k → remainder p K s k ≡ remainder p K t k
  same_remainder k h = ap (λ a. a -ℤ pos K.divisor *ℤ quot_z a (pos K.divisor)) (same_sum k h)

  pub same_used : (k : ℕ) → s.sample k ≡ t.sample k → Alike s t k → used p K s k ≡ used p K t k
  same_used k x h = ap₂ (λ x a. limited (x +ℤ quot_z a (pos K.divisor))) x (same_sum k h)

  pub same_carried : (n : ℕ) → Alike s t n → carried p K s n ≡ carried p K t n
  unfolding carried
  same_carried n h = ap₂ (λ a b. a +ℤ b) (ΣExt n _ _ (λ j l. ap (sent p K.taps (waits n) j) (h j l).0)) (same_hand n h)

  pub same_edge : (n : ℕ) → Alike s t n → edge p K s n ≡ edge p K t n
  unfolding edge
  same_edge n h = ΣExt n _ _ (λ j l. ap (sent p K.taps off j) (h j l).0)

-- ---- lists by channel
pub each_length : (n : ℕ) (f : ℕ → ℤ) → length (each n f) ≡ n
each_length n f = length-map-range_with_len f 0 n

pub each_at : (n : ℕ) (f : ℕ → ℤ) (c : ℕ) → c < n → get_or (each n f) c (pos 0) ≡ f c
each_at n f c l = get_or-map-range_with_len f 0 n c c (pos 0) l (omega arith)

pub each_ext : (n : ℕ) (f g : ℕ → ℤ) → ((c : ℕ) → c < n → f c ≡ g c) → each n f ≡ each n g
each_ext n f g h = fill_by_all g (each n f) n (pos 0) (each_length n f) (λ c l. each_at n f c l ∙ h c l)

-- ---- the run that is computed follows the rules
module _ (S : Setup) (x : ℕ → ℕ → ℤ) where
  pub dots_length : (n : ℕ) → length (dots S x n) ≡ n
  unfolding dots
  dots_length zero = refl
  dots_length (suc n) = length-append (dots S x n) _ ∙ omega (arith, dots_length n)

  pub dots_at : (n j : ℕ) → j < n → get_or (dots S x n) j blank ≡ next S x (dots S x j) j
  unfolding dots
  dots_at zero j l = absurd (omega arith)
  dots_at (suc n) j l = let q = dots_at n j in let long = dots_length n in grind (arith, common_steps)

  so_far_alike : (k c : ℕ) → Alike (so_far S x (dots S x k) c) (run S x c) k
  unfolding run
  so_far_alike k c = λ j l. (ap (λ d. get_or d.errors c (pos 0)) (dots_at k j l), ap (λ d. get_or d.rests c (pos 0)) (dots_at k j l))

  used_is : (k c : ℕ) → used S.page S.kernel (so_far S x (dots S x k) c) k ≡ used S.page S.kernel (run S x c) k
  unfolding run
  used_is k c = same_used S.page S.kernel (so_far S x (dots S x k) c) (run S x c) k refl (so_far_alike k c)

  values_is : (k : ℕ) → values S (so_far S x (dots S x k)) k ≡ values S (run S x) k
  values_is k = each_ext S.channels _ _ (λ c l. used_is k c)

  rest_met : (c k : ℕ) → c < S.channels → (run S x c).rest k ≡ remainder S.page S.kernel (run S x c) k
  unfolding run
  rest_met c k l =
      each_at S.channels (λ c. remainder S.page S.kernel (so_far S x (dots S x k) c) k) c l
      ∙ same_remainder S.page S.kernel (so_far S x (dots S x k) c) (run S x c) k (so_far_alike k c)

  error_met : (c k : ℕ) → c < S.channels → (run S x c).error k ≡ used S.page S.kernel (run S x c) k -ℤ (run S x c).tone k
  unfolding run ink_of
  error_met c k l =
      let u = values S (so_far S x (dots S x k)) k in
      each_at S.channels (λ c. get_or u c (pos 0) -ℤ pos (S.inks.tone (S.inks.choice u) c)) c l
      ∙ ap (λ v. v -ℤ (run S x c).tone k) (each_at S.channels (λ c. used S.page S.kernel (so_far S x (dots S x k) c) k) c l ∙ used_is k c)

pub met : Met
unfolding run ink_of
met S x n = record {
  diffused = λ c l. record { rests = λ k h. rest_met S x c k l; errors = λ k h. error_met S x c k l };
  tones = λ c k l h. refl;
  chosen = λ k h. ap S.inks.choice (values_is S x k);
}

-- ---- the rules fix it
module _ (S : Setup) (s t : ℕ → Trace) (i j : ℕ → ℕ) (n : ℕ) (fs : Follows S s i n) (ft : Follows S t j n)
    (same : (c k : ℕ) → c < S.channels → k < n → (s c).sample k ≡ (t c).sample k) where
  module _ (m : ℕ) (l : m < n) (before : (k : ℕ) → k < m → Agree S s t i j k) where
    alike : (c : ℕ) → c < S.channels → Alike (s c) (t c) m
    alike c h = λ k b. ((before k b).error c h, (before k b).rest c h)

    used_same : (c : ℕ) → c < S.channels → used S.page S.kernel (s c) m ≡ used S.page S.kernel (t c) m
    used_same c h = same_used S.page S.kernel (s c) (t c) m (same c m h l) (alike c h)

    ink_same : i m ≡ j m
    ink_same = fs.chosen m l ∙ ap S.inks.choice (each_ext S.channels _ _ used_same) ∙ sym (ft.chosen m l)

    tone_same : (c : ℕ) → c < S.channels → (s c).tone m ≡ (t c).tone m
    tone_same c h = fs.tones c m h l ∙ ap (λ k. pos (S.inks.tone k c)) ink_same ∙ sym (ft.tones c m h l)

    agree_next : Agree S s t i j m
    agree_next = record {
      ink = ink_same;
      tone = tone_same;
      error = λ c h. (fs.diffused c h).errors m l ∙ ap₂ (λ u y. u -ℤ y) (used_same c h) (tone_same c h) ∙ sym ((ft.diffused c h).errors m l);
      rest = λ c h. (fs.diffused c h).rests m l ∙ same_remainder S.page S.kernel (s c) (t c) m (alike c h) ∙ sym ((ft.diffused c h).rests m l);
    }

  up_to : (m : ℕ) → m ≤ n → (k : ℕ) → k < m → Agree S s t i j k
  up_to zero l = λ k h. absurd (omega arith)
  up_to (suc m) l =
      let before = up_to m (omega arith) in
      rw (← add-one) (below_more (Agree S s t i j) m before (agree_next m l before))

pub fixed : Fixed
fixed S s t i j n fs ft same k l = up_to S s t i j n fs ft same n (omega arith) k l

-- runs that take the same samples so far agree so far
pub runs_agree : (S : Setup) (x y : ℕ → ℕ → ℤ) (n : ℕ) → ((c k : ℕ) → c < S.channels → k < n → x c k ≡ y c k) →
    (k : ℕ) → k < n → Agree S (run S x) (run S y) (ink_of S x) (ink_of S y) k
unfolding run
runs_agree S x y n same = fixed S (run S x) (run S y) (ink_of S x) (ink_of S y) n (met S x n) (met S y n) same
