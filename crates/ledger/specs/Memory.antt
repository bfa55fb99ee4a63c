-- What a job keeps of one channel between cells: what waits for the cells ahead, the rest in hand, and plain sums, from which the accounts are made.
use Rattle.std.specs.Prelude.{◌≡◌, ℕ, ◌+◌, ◌*◌, ◌%◌, ◌^◌, ◌<◌, ◌≤◌, true, not, List, [], ◌∷◌, ◌++◌, length, ℤ, pos, ◌+ℤ◌, ◌-ℤ◌, ◌*ℤ◌, ◌==◌, int_div, nat_le, slice_index, slice_index_or, unsigned_abs}
use Rattle.kernel.specs.Rules.{Shape, weights, valid}
use Rattle.ledger.specs.Sums.{Σ<, given}
use Rattle.ledger.specs.Page.{Page, row, column, number, hits, off}
use Rattle.ledger.specs.Ledger.{Trace, limited, sent, ends_row, pending, in_hand, sum, remainder, wanted, used, taken, laid, carried, edge, kernel, rounding, clipped}
use Rattle.ledger.specs.Dots.{Setup, Tones, samples, channel, ink_of, each}
use Rattle.ledger.specs.Laws.{Fair}

-- four rows of 1,024 columns are kept: row r takes the place of row r - 4
abbrev pub kept_rows : ℕ
kept_rows = 4

abbrev pub kept_columns : ℕ
kept_columns = 1024

abbrev pub slot : ℕ → ℕ → ℕ
slot r c = r % kept_rows * kept_columns + c

-- the sums are of x, of y, of e, of w × e that is carried with the rest in hand, of w × e off the page, of the rests that end rows, and of v - u
pub record Memory : Type 0 where
  pub waiting : List ℤ
  pub hand : ℤ
  pub samples : ℤ
  pub tones : ℤ
  pub errors : ℤ
  pub carry : ℤ
  pub off_page : ℤ
  pub row_ends : ℤ
  pub cut : ℤ

-- what waits at the place of cell m after n cells: a done cell's place is cleared
unfoldable pub awaits : Page → Shape → Trace → ℕ → ℕ → ℤ
awaits p K s n m = given (nat_le n m) (pending p K s n m)

-- The memory after n cells.
pub record Holds (p : Page) (K : Shape) (s : Trace) (n : ℕ) (h : Memory) : Type 0 where
  pub memory : (r c : ℕ) → c < p.width → row p n ≤ r → r < row p n + kept_rows → slice_index_or h.waiting (slot r c) (pos 0) ≡ awaits p K s n (number p r c)
  pub hand_is : h.hand ≡ in_hand p K s n
  pub samples_is : h.samples ≡ Σ< n s.sample
  pub tones_is : h.tones ≡ Σ< n s.tone
  pub errors_is : h.errors ≡ Σ< n s.error
  pub carry_is : h.carry ≡ carried p K s n
  pub off_page_is : h.off_page ≡ edge p K s n
  pub row_ends_is : h.row_ends ≡ rounding p K s n
  pub cut_is : h.cut ≡ Σ< n (λ k. wanted p K s k -ℤ used p K s k)

-- A, v, R and e of cell k, from the memory, the sample x and the tone y
abbrev pub sum_of : Page → ℕ → Memory → ℤ
sum_of p k h = slice_index_or h.waiting (slot (row p k) (column p k)) (pos 0) +ℤ h.hand

abbrev pub wanted_of : Shape → ℤ → ℤ → ℤ
wanted_of K x a = x +ℤ int_div a (pos K.divisor)

abbrev pub rest_of : Shape → ℤ → ℤ
rest_of K a = a -ℤ pos K.divisor *ℤ int_div a (pos K.divisor)

abbrev pub error_of : Shape → ℤ → ℤ → ℤ → ℤ
error_of K x y a = limited (wanted_of K x a) -ℤ y

-- What doing cell k changes, where it takes x, is laid y and has A = a.
pub record Stepped (p : Page) (K : Shape) (k : ℕ) (x y a : ℤ) (h h' : Memory) : Type 0 where
  pub sum_is : a ≡ sum_of p k h
  pub memory : (r c : ℕ) → c < p.width → row p k ≤ r → r < row p k + kept_rows →
      slice_index_or h'.waiting (slot r c) (pos 0)
      ≡ given (not (number p r c == k)) (slice_index_or h.waiting (slot r c) (pos 0)) +ℤ sent p K.taps (hits (number p r c)) k (error_of K x y a)
  pub hand_is : h'.hand ≡ given (not (ends_row p k)) (rest_of K a)
  pub samples_is : h'.samples ≡ h.samples +ℤ x
  pub tones_is : h'.tones ≡ h.tones +ℤ y
  pub errors_is : h'.errors ≡ h.errors +ℤ error_of K x y a
  pub carry_is : h'.carry ≡ h.carry -ℤ a +ℤ (pos (weights K.taps) *ℤ error_of K x y a -ℤ sent p K.taps off k (error_of K x y a)) +ℤ h'.hand
  pub off_page_is : h'.off_page ≡ h.off_page +ℤ sent p K.taps off k (error_of K x y a)
  pub row_ends_is : h'.row_ends ≡ h.row_ends +ℤ given (ends_row p k) (rest_of K a)
  pub cut_is : h'.cut ≡ h.cut +ℤ (wanted_of K x a -ℤ limited (wanted_of K x a))

-- nothing waits, and every sum is 0
pub record Empty (h : Memory) : Type 0 where
  pub none_waits : (i : ℕ) → slice_index_or h.waiting i (pos 0) ≡ pos 0
  pub no_hand : h.hand ≡ pos 0
  pub no_samples : h.samples ≡ pos 0
  pub no_tones : h.tones ≡ pos 0
  pub no_errors : h.errors ≡ pos 0
  pub no_carry : h.carry ≡ pos 0
  pub none_off_page : h.off_page ≡ pos 0
  pub no_row_ends : h.row_ends ≡ pos 0
  pub no_cut : h.cut ≡ pos 0

-- The memories of all channels, where the cells done took these tones.
abbrev pub Keeps : Setup → Tones → (ℕ → Memory) → Type 0
Keeps S xs hs = (c : ℕ) → c < S.channels → Holds S.page S.kernel (channel S xs c) (length xs) (hs c)

-- the values u of the next cell, which takes x
abbrev pub next_values : Setup → Tones → (ℕ → Memory) → List ℕ → List ℤ
next_values S xs hs x = each S.channels (λ c. limited (wanted_of S.kernel (pos (slice_index x c)) (sum_of S.page (length xs) (hs c))))

-- one cell more in every channel: it takes x and is laid the ink
abbrev pub AllStepped : Setup → Tones → (ℕ → Memory) → List ℕ → ℕ → (ℕ → Memory) → Type 0
AllStepped S xs hs x ink hs' =
    (c : ℕ) → c < S.channels →
    Stepped S.page S.kernel (length xs) (pos (slice_index x c)) (pos (S.inks.tone ink c)) (sum_of S.page (length xs) (hs c)) (hs c) (hs' c)

-- The memories keep up with the run: an empty memory starts it, and a step with the ink chosen for the next values takes it one cell on, lays the ink of the definition, and leaves the inks of the earlier cells.
pub record KeepsUp (S : Setup) : Type 0 where
  pub starts : (hs : ℕ → Memory) → ((c : ℕ) → c < S.channels → Empty (hs c)) → Keeps S [] hs
  pub goes_on : (xs : Tones) (hs : ℕ → Memory) (x : List ℕ) (ink : ℕ) (hs' : ℕ → Memory) →
      Keeps S xs hs → ink ≡ S.inks.choice (next_values S xs hs x) → AllStepped S xs hs x ink hs' → Keeps S (xs ++ x ∷ []) hs'
  pub lays : (xs : Tones) (hs : ℕ → Memory) (x : List ℕ) → Keeps S xs hs → ink_of S (samples (xs ++ x ∷ [])) (length xs) ≡ S.inks.choice (next_values S xs hs x)
  pub stays : (xs : Tones) (x : List ℕ) (k : ℕ) → k < length xs → ink_of S (samples (xs ++ x ∷ [])) k ≡ ink_of S (samples xs) k

abbrev pub MemoryKeepsUp : Type 0
MemoryKeepsUp = (S : Setup) → 1 ≤ S.page.width → valid S.kernel ≡ true → KeepsUp S

-- A, R and v of a cell are small
pub record SmallCell (p : Page) (K : Shape) (s : Trace) (k : ℕ) : Type 0 where
  pub sum : unsigned_abs (sum p K s k) < 2 ^ 17
  pub remainder : unsigned_abs (remainder p K s k) < 2 ^ 8
  pub wanted : unsigned_abs (wanted p K s k) < 2 ^ 10

-- every number kept is small enough for its place: 32 bits for what waits and the rest in hand, 64 for the sums, also times the divisor
pub record Small (p : Page) (n : ℕ) (h : Memory) : Type 0 where
  pub memory : (r c : ℕ) → c < p.width → row p n ≤ r → r < row p n + kept_rows → unsigned_abs (slice_index_or h.waiting (slot r c) (pos 0)) < 2 ^ 17
  pub hand : unsigned_abs h.hand < 2 ^ 8
  pub samples : unsigned_abs h.samples < 2 ^ 31
  pub tones : unsigned_abs h.tones < 2 ^ 31
  pub errors : unsigned_abs h.errors < 2 ^ 32
  pub carry : unsigned_abs h.carry < 2 ^ 40
  pub off_page : unsigned_abs h.off_page < 2 ^ 40
  pub row_ends : unsigned_abs h.row_ends < 2 ^ 31
  pub cut : unsigned_abs h.cut < 2 ^ 34

-- The sizes, on pages of 1,024 by 8,192 cells at most: of each done cell, and of what is kept.
abbrev pub Sizes : Type 0
Sizes =
    (S : Setup) (xs : Tones) → 1 ≤ S.page.width → S.page.width ≤ 1024 → S.page.height ≤ 8192 → Fair S xs → (c : ℕ) → c < S.channels →
    ((k : ℕ) → k < length xs → SmallCell S.page S.kernel (channel S xs c) k)
    × ((h : Memory) → Holds S.page S.kernel (channel S xs c) (length xs) h → Small S.page (length xs) h)

-- The sums kept make the accounts.
pub record Accounted (p : Page) (K : Shape) (s : Trace) (n : ℕ) (h : Memory) : Type 0 where
  pub taken_is : pos K.divisor *ℤ h.samples ≡ taken p K s n
  pub laid_is : pos K.divisor *ℤ h.tones ≡ laid p K s n
  pub carried_is : h.carry ≡ carried p K s n
  pub edge_is : h.off_page ≡ edge p K s n
  pub kernel_is : (pos K.divisor -ℤ pos (weights K.taps)) *ℤ h.errors ≡ kernel p K s n
  pub rounding_is : h.row_ends ≡ rounding p K s n
  pub clipped_is : pos K.divisor *ℤ h.cut ≡ clipped p K s n

abbrev pub SumsAnswer : Type 0
SumsAnswer = (p : Page) (K : Shape) (s : Trace) (n : ℕ) (h : Memory) → Holds p K s n h → Accounted p K s n h
