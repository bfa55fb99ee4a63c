-- One channel of a run: the arithmetic of a cell, and the seven accounts.
use Rattle.std.specs.Prelude.{◌≡◌, ℕ, zero, suc, ◌%◌, ◌<◌, Bool, cond, not, List, ℤ, pos, ◌+ℤ◌, ◌-ℤ◌, ◌*ℤ◌, neg_ℤ, Option, ◌==◌, int_div, int_lt}
use Rattle.kernel.specs.declared.tap.Tap.{Tap}
use Rattle.kernel.specs.Rules.{Shape, weights}
use Rattle.ledger.specs.Sums.{Σ<, Σ∈, given}
use Rattle.ledger.specs.Page.{Page, aimed, hits, waits, off}

-- One channel of a run, by the number of the cell: x, the sample taken; y, the tone of the ink laid; e, the error; R, the rest, which division leaves.
pub record Trace : Type 0 where
  pub sample : ℕ → ℤ
  pub tone : ℕ → ℤ
  pub error : ℕ → ℤ
  pub rest : ℕ → ℤ

-- the limits of the value for which an ink is chosen
abbrev pub lowest : ℤ
lowest = neg_ℤ (pos 255)

abbrev pub highest : ℤ
highest = pos 510

abbrev pub limited : ℤ → ℤ
limited v = cond (int_lt v lowest) lowest (cond (int_lt highest v) highest v)

-- what cell j with error e sends by those taps whose aim passes the test: the sum of w × e
unfoldable pub sent : Page → List Tap → (Option ℕ → Bool) → ℕ → ℤ → ℤ
sent p ts test j e = Σ∈ ts (λ t. given (test (aimed p t j)) (pos t.weight *ℤ e))

-- whether cell k is the last of its row
abbrev pub ends_row : Page → ℕ → Bool
ends_row p k = suc k % p.width == 0

module _ (p : Page) (K : Shape) (s : Trace) where
  abbrev pub D : ℤ
  D = pos K.divisor

  -- what done cell j sends by its taps of a kind
  abbrev pub shares : (Option ℕ → Bool) → ℕ → ℤ
  shares test j = sent p K.taps test j (s.error j)

  -- what waits for cell m after n cells: the sum of w × e over all taps of done cells that aim there
  unfoldable pub pending : ℕ → ℕ → ℤ
  pending n m = Σ< n (shares (hits m))

  -- the rest in hand after n cells: that of the last one, unless it ended its row
  unfoldable pub in_hand : ℕ → ℤ
  in_hand zero = pos 0
  in_hand (suc k) = given (not (ends_row p k)) (s.rest k)

  -- A of cell k
  abbrev pub sum : ℕ → ℤ
  sum k = pending k k +ℤ in_hand k

  -- q, which is A divided by D toward zero
  abbrev pub quotient : ℕ → ℤ
  quotient k = int_div (sum k) D

  -- R
  abbrev pub remainder : ℕ → ℤ
  remainder k = sum k -ℤ D *ℤ quotient k

  -- v
  abbrev pub wanted : ℕ → ℤ
  wanted k = s.sample k +ℤ quotient k

  -- u
  abbrev pub used : ℕ → ℤ
  used k = limited (wanted k)

  -- The first n cells are done by the rules: each has the rest R and the error e = u - y.
  pub record Diffused (n : ℕ) : Type 0 where
    pub rests : (k : ℕ) → k < n → s.rest k ≡ remainder k
    pub errors : (k : ℕ) → k < n → s.error k ≡ used k -ℤ s.tone k

  -- The seven accounts after n cells, in units of 1/D.
  -- 0: D × x
  unfoldable pub taken : ℕ → ℤ
  taken n = Σ< n (λ k. D *ℤ s.sample k)

  -- 1: D × y
  unfoldable pub laid : ℕ → ℤ
  laid n = Σ< n (λ k. D *ℤ s.tone k)

  -- 2: w × e for each tap that aims at a cell of the page not yet done, and the rest in hand
  unfoldable pub carried : ℕ → ℤ
  carried n = Σ< n (shares (waits n)) +ℤ in_hand n

  -- 3: w × e for each tap that aims off the page
  unfoldable pub edge : ℕ → ℤ
  edge n = Σ< n (shares off)

  -- 4: the part of each error that the kernel does not pass on
  unfoldable pub kernel : ℕ → ℤ
  kernel n = Σ< n (λ k. (D -ℤ pos (weights K.taps)) *ℤ s.error k)

  -- 5: the rest of each row's last cell
  unfoldable pub rounding : ℕ → ℤ
  rounding n = Σ< n (λ k. given (ends_row p k) (s.rest k))

  -- 6: what the limits cut off
  unfoldable pub clipped : ℕ → ℤ
  clipped n = Σ< n (λ k. D *ℤ (wanted k -ℤ used k))
