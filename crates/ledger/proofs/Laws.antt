-- The three laws, at the run that takes a list of tones.
use Rattle.std.proofs.Common.{◌≡◌, ℕ, suc, ◌*◌, ◌<◌, ◌≤◌, length, get_or, pos, ◌-ℤ◌, ◌*ℤ◌, Some, refl, ⊎_elim, arith}
use borrow.Author.Differences.{ints}
use Rattle.std.proofs.lemmas.Bool.{cases_lt}
use Rattle.kernel.specs.Rules.{Shape}
use Rattle.ledger.specs.Page.{Page}
use Rattle.ledger.specs.Ledger.{Trace, lowest, highest, in_hand, wanted, used, Diffused, taken, laid, carried, edge, kernel, rounding, clipped}
use Rattle.ledger.specs.Dots.{Setup, Tones, samples, channel, values, ink_of, run}
use Rattle.ledger.specs.Laws.{Between, Within, Fair, inside, Balanced, ErrorsWithin, RectanglesWithin, Balance, Errors, Rectangles, Guarantee, AimsLater, OneMore}
use Rattle.ledger.proofs.Sums.{ΣZero}
use Rattle.ledger.proofs.Page.{aims_later, none_aimed}
use Rattle.ledger.proofs.Kernels.{sound, ahead_at}
use Rattle.ledger.proofs.Run.{met, each_length, each_at}
use Rattle.ledger.proofs.Balance.{balanced, carried_step}
use Rattle.ledger.proofs.Bounds.{limited_between, limited_errors, Ranged, bounded}
use Rattle.ledger.proofs.Rectangle.{faithful}

-- a page has some width or none
by_width : {X : Type 0} (p : Page) → (p.width ≡ 0 → X) → (1 ≤ p.width → X) → X
by_width p none some = ⊎_elim (λ l. none (omega arith)) some (cases_lt p.width 1)

-- before the first cell everything is 0
module _ (p : Page) (K : Shape) (s : Trace) where
  none_balanced : Balanced p K s 0
  unfolding taken laid carried edge kernel rounding clipped in_hand
  none_balanced = refl

  none_clipped : clipped p K s 0 ≡ pos 0
  unfolding clipped
  none_clipped = refl

  -- on a page of width 0 a rectangle has no cells
  none_inside : (E n : ℕ) → p.width ≡ 0 → RectanglesWithin E p K s n
  none_inside E n z top left h w r =
      let e : w ≡ 0 = omega (arith, r.columns) in
      let q : inside p top left h w (λ k. pos K.divisor *ℤ (s.sample k -ℤ s.tone k)) ≡ pos 0 = rw e (ΣZero h _ (λ i l. refl)) in
      rw q (omega arith)

module _ (S : Setup) (xs : Tones) (fair : Fair S xs) where
  n : ℕ
  n = length xs

  diffused : (c : ℕ) → c < S.channels → Diffused S.page S.kernel (channel S xs c) (length xs)
  diffused c l = (met S (samples xs) (length xs)).diffused c l

  pub values_within : (k : ℕ) → Within S.channels lowest highest (values S (channel S xs) k)
  values_within k = record {
    long = each_length S.channels (λ c. used S.page S.kernel (channel S xs c) k);
    each = λ c l. rw (each_at S.channels (λ c. used S.page S.kernel (channel S xs c) k) c l) (limited_between (wanted S.page S.kernel (channel S xs c) k));
  }

  pub ink_below : (k : ℕ) → ink_of S (samples xs) k < S.inks.count
  ink_below k = rw ((met S (samples xs) (suc k)).chosen k (omega arith)) (fair.inks.chosen _ (values_within k))

  pub tone_byte : (c k : ℕ) → c < S.channels → Between (pos 0) (pos 255) ((channel S xs c).tone k)
  tone_byte c k l =
      rw ((met S (samples xs) (suc k)).tones c k l (omega arith))
      (let h = fair.inks.tones (ink_of S (samples xs) k) c (ink_below k) l in (omega (arith, ints), omega (arith, ints)))

  pub sample_byte : (c k : ℕ) → c < S.channels → k < length xs → Between (pos 0) (pos 255) ((channel S xs c).sample k)
  unfolding run
  sample_byte c k l h = let b = fair.values c k l h in (omega (arith, ints), omega (arith, ints))

  ranged : (E : ℕ) → S.inks.spread ≡ Some E → 1 ≤ S.page.width → Ranged S.page S.kernel S.channels (channel S xs) (length xs) (pos 0) (pos 255) E
  ranged E e w =
      record {
        page = (w, fair.page);
        sound = sound S.kernel fair.kernel;
        diffused = diffused;
        samples = sample_byte;
        tones = (omega (arith, ints), omega (arith, ints), fair.inks.spread E e);
        spread = λ k h near c l.
            let u = values S (channel S xs) k in
            let at : (c : ℕ) → c < S.channels → get_or u c (pos 0) ≡ used S.page S.kernel (channel S xs c) k = λ c l. each_at S.channels (λ c. used S.page S.kernel (channel S xs c) k) c l in
            let b = fair.inks.near E e u (record { long = each_length S.channels (λ c. used S.page S.kernel (channel S xs c) k); each = λ c l. rw (at c l) (near c l) }) c l in
            rw ((met S (samples xs) (length xs)).tones c k l h, (met S (samples xs) (length xs)).chosen k h, ← at c l) b;
      }

  -- a page of width 0 has no cells
  none_done : S.page.width ≡ 0 → length xs ≡ 0
  none_done z = let q : S.page.width * S.page.height ≡ 0 = rw z (omega arith) in omega (arith, fair.page)

  errors_in : (c : ℕ) → c < S.channels → (E : ℕ) → S.inks.spread ≡ Some E → ErrorsWithin E (channel S xs c) (length xs) × (clipped S.page S.kernel (channel S xs c) (length xs) ≡ pos 0)
  errors_in c l E e = by_width S.page
      (λ z. let q = none_done z in ((λ k h. absurd (omega arith)), rw q (none_clipped S.page S.kernel (channel S xs c))))
      (λ w. bounded S.page S.kernel S.channels (channel S xs) (length xs) (pos 0) (pos 255) E (ranged E e w) c l)

  balanced_in : (c : ℕ) → c < S.channels → Balanced S.page S.kernel (channel S xs c) (length xs)
  balanced_in c l = by_width S.page
      (λ z. rw (none_done z) (none_balanced S.page S.kernel (channel S xs c)))
      (λ w. balanced S.page S.kernel (channel S xs c) (length xs) w (sound S.kernel fair.kernel) (diffused c l))

  limited_in : (c : ℕ) → c < S.channels → ErrorsWithin 510 (channel S xs c) (length xs)
  limited_in c l = λ k h. limited_errors S.page S.kernel (channel S xs c) (length xs) k (diffused c l) h (tone_byte c k l)

  rectangles_in : (c : ℕ) → c < S.channels → (E : ℕ) → S.inks.spread ≡ Some E → RectanglesWithin E S.page S.kernel (channel S xs c) (length xs)
  rectangles_in c l E e = by_width S.page
      (λ z. none_inside S.page S.kernel (channel S xs c) E (length xs) z)
      (λ w. faithful S.page S.kernel S.channels (channel S xs) (length xs) (pos 0) (pos 255) E (ranged E e w) c l)

pub balance : Balance
balance S xs fair c l = balanced_in S xs fair c l

pub errors : Errors
errors S xs fair c l = ((λ E e. errors_in S xs fair c l E e), λ e. limited_in S xs fair c l)

pub rectangles : Rectangles
rectangles S xs fair c l E e = rectangles_in S xs fair c l E e

pub guarantee : Guarantee
guarantee S xs fair c l = record {
  balanced = balanced_in S xs fair c l;
  bounded = λ E e. errors_in S xs fair c l E e;
  limited = λ e. limited_in S xs fair c l;
  rectangles = λ E e. rectangles_in S xs fair c l E e;
}

pub one_more : OneMore
unfolding taken laid edge kernel rounding clipped
one_more p K s n = record {
  taken_grows = refl;
  laid_grows = refl;
  carried_grows = carried_step p K s n;
  edge_grows = refl;
  kernel_grows = refl;
  rounding_grows = refl;
  clipped_grows = refl;
}

pub aims : AimsLater
aims p K ok i j m t l e = by_width p
    (λ z. absurd (none_aimed p _ j m z e))
    (λ w. aims_later p _ j m w (ahead_at K.taps i t (sound K ok).each_ahead l) e)
