-- The three laws of the ledger, for every page, order, kernel and ink set, and every list of tones taken.
use Rattle.std.specs.Prelude.{◌≡◌, ℕ, suc, ◌+◌, ◌-◌, ◌*◌, ◌<◌, ◌≤◌, true, List, length, ℤ, pos, ◌+ℤ◌, ◌-ℤ◌, ◌*ℤ◌, ◌≤ℤ◌, Some, None, slice_index_or, unsigned_abs}
use Rattle.kernel.specs.declared.tap.Tap.{Tap}
use Rattle.kernel.specs.Rules.{Shape, over, weights, valid}
use Rattle.ledger.specs.Sums.{Σ<, given}
use Rattle.ledger.specs.Page.{Page, cells, number, aimed, waits, off}
use Rattle.ledger.specs.Ledger.{Trace, lowest, highest, sent, ends_row, in_hand, sum, wanted, used, taken, laid, carried, edge, kernel, rounding, clipped}
use Rattle.ledger.specs.Dots.{InkSet, Setup, Tones, value, channel}

-- z lies in lo .. hi
abbrev pub Between : ℤ → ℤ → ℤ → Type 0
Between lo hi z = (lo ≤ℤ z) × (z ≤ℤ hi)

-- u has N values, each in lo .. hi
pub record Within (N : ℕ) (lo hi : ℤ) (u : List ℤ) : Type 0 where
  pub long : length u ≡ N
  pub each : (c : ℕ) → c < N → Between lo hi (slice_index_or u c (pos 0))

-- What an ink set keeps for tones of N channels: 1 to 256 inks of tones 0 to 255, a choice among them for every u within the limits, and, if it has a spread E, an ink within E of u for every u in -E .. 255 + E.
pub record Lawful (N : ℕ) (I : InkSet) : Type 0 where
  pub some : 1 ≤ I.count
  pub few : I.count ≤ 256
  pub tones : (i c : ℕ) → i < I.count → c < N → I.tone i c ≤ 255
  pub chosen : (u : List ℤ) → Within N lowest highest u → I.choice u < I.count
  pub spread : (E : ℕ) → I.spread ≡ Some E → E ≤ 255
  pub near : (E : ℕ) → I.spread ≡ Some E → (u : List ℤ) → Within N (pos 0 -ℤ pos E) (pos 255 +ℤ pos E) u →
      (c : ℕ) → c < N → unsigned_abs (slice_index_or u c (pos 0) -ℤ pos (I.tone (I.choice u) c)) ≤ E

-- The kernel and the ink set keep their laws, and the tones taken are of so many cells as the page has at most, with values of 0 to 255.
pub record Fair (S : Setup) (xs : Tones) : Type 0 where
  pub kernel : valid S.kernel ≡ true
  pub inks : Lawful S.channels S.inks
  pub page : length xs ≤ cells S.page
  pub values : (c k : ℕ) → c < S.channels → k < length xs → value xs c k ≤ 255

-- H and V of a kernel
abbrev pub across : Shape → ℕ
across K = over (λ t. t.weight * unsigned_abs t.ahead) K.taps

abbrev pub downward : Shape → ℕ
downward K = over (λ t. t.weight * t.down) K.taps

-- a rectangle of the page whose cells are all among the first n
pub record Rectangle (p : Page) (n top left high wide : ℕ) : Type 0 where
  pub rows : top + high ≤ p.height
  pub columns : left + wide ≤ p.width
  pub all_done : (i j : ℕ) → i < high → j < wide → number p (top + i) (left + j) < n

-- the sum over its cells
abbrev pub inside : Page → ℕ → ℕ → ℕ → ℕ → (ℕ → ℤ) → ℤ
inside p top left high wide f = Σ< high (λ i. Σ< wide (λ j. f (number p (top + i) (left + j))))

-- what is said of one channel after n cells
abbrev pub Balanced : Page → Shape → Trace → ℕ → Type 0
Balanced p K s n = taken p K s n ≡ laid p K s n +ℤ carried p K s n +ℤ edge p K s n +ℤ kernel p K s n +ℤ rounding p K s n +ℤ clipped p K s n

abbrev pub ErrorsWithin : ℕ → Trace → ℕ → Type 0
ErrorsWithin E s n = (k : ℕ) → k < n → unsigned_abs (s.error k) ≤ E

abbrev pub RectanglesWithin : ℕ → Page → Shape → Trace → ℕ → Type 0
RectanglesWithin E p K s n =
    (top left h w : ℕ) → Rectangle p n top left h w →
    unsigned_abs (inside p top left h w (λ k. pos K.divisor *ℤ (s.sample k -ℤ s.tone k)))
    ≤ 2 * E * (across K * h + downward K * w) + 2 * (K.divisor - 1) * h + (K.divisor - weights K.taps) * E * h * w

-- Balance: in each channel taken is laid with carried, edge, kernel, rounding and clipped.
abbrev pub Balance : Type 0
Balance = (S : Setup) (xs : Tones) → Fair S xs → (c : ℕ) → c < S.channels → Balanced S.page S.kernel (channel S xs c) (length xs)

-- Errors: with a spread E they lie within E of zero and nothing is clipped; with none, within 510.
abbrev pub Errors : Type 0
Errors =
    (S : Setup) (xs : Tones) → Fair S xs → (c : ℕ) → c < S.channels →
    ((E : ℕ) → S.inks.spread ≡ Some E → ErrorsWithin E (channel S xs c) (length xs) × (clipped S.page S.kernel (channel S xs c) (length xs) ≡ pos 0))
    × (S.inks.spread ≡ None → ErrorsWithin 510 (channel S xs c) (length xs))

-- Rectangles: with a spread E, in every rectangle of h rows and w columns, all done, the sum of D × (x - y) is within 2E(Hh + Vw) + 2(D - 1)h + (D - W)Ehw of zero.
abbrev pub Rectangles : Type 0
Rectangles =
    (S : Setup) (xs : Tones) → Fair S xs → (c : ℕ) → c < S.channels →
    (E : ℕ) → S.inks.spread ≡ Some E → RectanglesWithin E S.page S.kernel (channel S xs c) (length xs)

-- all three, of one channel
pub record Guaranteed (S : Setup) (s : Trace) (n : ℕ) : Type 0 where
  pub balanced : Balanced S.page S.kernel s n
  pub bounded : (E : ℕ) → S.inks.spread ≡ Some E → ErrorsWithin E s n × (clipped S.page S.kernel s n ≡ pos 0)
  pub limited : S.inks.spread ≡ None → ErrorsWithin 510 s n
  pub rectangles : (E : ℕ) → S.inks.spread ≡ Some E → RectanglesWithin E S.page S.kernel s n

abbrev pub Guarantee : Type 0
Guarantee = (S : Setup) (xs : Tones) → Fair S xs → (c : ℕ) → c < S.channels → Guaranteed S (channel S xs c) (length xs)

-- A tap aims off the page or at a later cell.
abbrev pub AimsLater : Type 0
AimsLater = (p : Page) (K : Shape) → valid K ≡ true → (i j m : ℕ) (t : Tap) → i < length K.taps → aimed p (slice_index_or K.taps i t) j ≡ Some m → j < m

-- One more cell changes each account by this much.
pub record Grows (p : Page) (K : Shape) (s : Trace) (n : ℕ) : Type 0 where
  pub taken_grows : taken p K s (suc n) ≡ taken p K s n +ℤ pos K.divisor *ℤ s.sample n
  pub laid_grows : laid p K s (suc n) ≡ laid p K s n +ℤ pos K.divisor *ℤ s.tone n
  pub carried_grows : carried p K s (suc n) +ℤ sum p K s n ≡ carried p K s n +ℤ (sent p K.taps (waits (suc n)) n (s.error n) +ℤ in_hand p K s (suc n))
  pub edge_grows : edge p K s (suc n) ≡ edge p K s n +ℤ sent p K.taps off n (s.error n)
  pub kernel_grows : kernel p K s (suc n) ≡ kernel p K s n +ℤ (pos K.divisor -ℤ pos (weights K.taps)) *ℤ s.error n
  pub rounding_grows : rounding p K s (suc n) ≡ rounding p K s n +ℤ given (ends_row p n) (s.rest n)
  pub clipped_grows : clipped p K s (suc n) ≡ clipped p K s n +ℤ pos K.divisor *ℤ (wanted p K s n -ℤ used p K s n)

abbrev pub OneMore : Type 0
OneMore = (p : Page) (K : Shape) (s : Trace) (n : ℕ) → Grows p K s n
