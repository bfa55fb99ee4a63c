-- The sum of D × (x - y) over a rectangle. Cell by cell it is (D - W) × e, plus what the cell sends less what it is sent, plus its rest less the rest it was handed. What is sent within the rectangle cancels: for each tap, errors moved by its columns and rows differ from those in place only near the sides. Rests telescope along each row.
use Rattle.std.proofs.Common.{◌≡◌, ℕ, zero, suc, ◌+◌, ◌-◌, ◌*◌, ◌<◌, ◌≤◌, Bool, true, false, cond, ltb, List, [], ◌∷◌, ℤ, pos, ◌+ℤ◌, ◌-ℤ◌, ◌*ℤ◌, neg_ℤ, nat_abs, refl, ap, ◌∙◌, mul-le-mul_left, arith}
use borrow.Author.Differences.{ints}
use Rattle.std.proofs.lemmas.Nat.{mod-mul-add}
use Rattle.std.proofs.lemmas.Int.{unsigned_abs-mul}
use Rattle.std.proofs.lemmas.List.Sums.{sum_by-cons}
use Rattle.ledger.specs.Sums.{Σ<, Σ∈, given}
use Rattle.kernel.specs.declared.tap.Tap.{Tap}
use Rattle.ledger.specs.Page.{Page, backward, cells, number, ahead}
use Rattle.ledger.specs.Ledger.{Trace, in_hand, pending, quotient, wanted, used, Diffused}
use Rattle.kernel.specs.Rules.{Shape, over, weights}
use Rattle.ledger.specs.Laws.{across, downward, Rectangle, inside, RectanglesWithin}
use Rattle.ledger.proofs.Kernels.{Sound}
use Rattle.ledger.proofs.Ring.{mul_sub, sub_mul, add_mul, abs_add, abs_sub}
use Rattle.ledger.proofs.Sums.{ΣExt, ΣAdd, ΣSub, ΣMul, ΣAbs, ΣTelescope, ΣTelescopeDown, Σ∈Ext, ΣSwap, grid, grid_ext, grid_add, grid_abs}
use Rattle.ledger.proofs.Page.{row_number, column_number}
use Rattle.ledger.proofs.Senders.{error_at, error_at_abs, error_at_done, sender, brought_is}
use Rattle.ledger.proofs.Bounds.{Ranged, rests_small, bounded, unclipped}
use Rattle.ledger.proofs.Shift.{stretch, moved_abs}

-- ---- one tap over the rectangle
-- the columns of one row, moved by the tap
row_moved : (f : ℤ → ℤ) (E : ℕ) → ((z : ℤ) → nat_abs (f z) ≤ E) → (left : ℕ) (b : Bool) (a : ℤ) (w : ℕ) →
    nat_abs (Σ< w (λ j. f (pos (left + j))) -ℤ Σ< w (λ j. f (ahead b (pos (left + j)) a))) ≤ 2 * nat_abs a * E
unfolding ahead
row_moved f E h left true a w =
    let e : Σ< w (λ j. f (pos (left + j) -ℤ a)) ≡ stretch f (pos left -ℤ a) w = ΣExt w _ _ (λ j l. ap f (omega (arith, ints))) in
    rw e (moved_abs f E h (pos left) a w)
row_moved f E h left false a w =
    let e : Σ< w (λ j. f (pos (left + j) +ℤ a)) ≡ stretch f (pos left -ℤ neg_ℤ a) w = ΣExt w _ _ (λ j l. ap f (omega (arith, ints))) in
    let same : nat_abs (neg_ℤ a) ≡ nat_abs a = omega (arith, ints) in
    rw e (rw same at (moved_abs f E h (pos left) (neg_ℤ a) w))

-- the row sums, moved by the tap
rows_moved : (G : ℤ → ℤ) (B : ℕ) → ((z : ℤ) → nat_abs (G z) ≤ B) → (top d h : ℕ) →
    nat_abs (Σ< h (λ i. G (pos (top + i))) -ℤ Σ< h (λ i. G (pos (top + i) -ℤ pos d))) ≤ 2 * d * B
rows_moved G B bound top d h =
    let e : Σ< h (λ i. G (pos (top + i) -ℤ pos d)) ≡ stretch G (pos top -ℤ pos d) h = ΣExt h _ _ (λ i l. ap G (omega (arith, ints))) in
    rw e (moved_abs G B bound (pos top) (pos d) h)

through : (x y z : ℤ) → x -ℤ z ≡ (x -ℤ y) +ℤ (y -ℤ z)
through x y z = omega (arith, ints)

tap_abs : (p : Page) (e : ℕ → ℤ) (n E : ℕ) → ((k : ℕ) → k < n → nat_abs (e k) ≤ E) → (t : Tap) (top left h w : ℕ) →
    nat_abs (Σ< h (λ i. Σ< w (λ j. error_at p e n (pos (top + i)) (pos (left + j)) -ℤ sender p e n t (pos (top + i)) (pos (left + j)))))
    ≤ 2 * t.down * (w * E) + h * (2 * nat_abs t.ahead * E)
tap_abs p e n E small t top left h w =
    rw (ΣExt h _ _ (λ i l. whole i) ∙ ΣAdd h (λ i. G (pos (top + i)) -ℤ G (pos (top + i) -ℤ pos t.down)) S ∙ ap (λ z. z +ℤ Σ< h S) (ΣSub h (λ i. G (pos (top + i))) (λ i. G (pos (top + i) -ℤ pos t.down))))
    (let first = rows_moved G (w * E) g_abs top t.down h in
    let second = ΣAbs h (2 * nat_abs t.ahead * E) S (λ i l. row_moved (F (pos (top + i) -ℤ pos t.down)) E (error_at_abs p e n E small _) left _ t.ahead w) in
    omega (arith, abs_add (Σ< h (λ i. G (pos (top + i))) -ℤ Σ< h (λ i. G (pos (top + i) -ℤ pos t.down))) (Σ< h S)))
  where
    F : ℤ → ℤ → ℤ
    F i c = error_at p e n i c

    G : ℤ → ℤ
    G i = Σ< w (λ j. F i (pos (left + j)))

    g_abs : (i : ℤ) → nat_abs (G i) ≤ w * E
    g_abs i = ΣAbs w E _ (λ j l. error_at_abs p e n E small i (pos (left + j)))

    S : ℕ → ℤ
    S i = G (pos (top + i) -ℤ pos t.down) -ℤ Σ< w (λ j. sender p e n t (pos (top + i)) (pos (left + j)))

    whole : (i : ℕ) → Σ< w (λ j. F (pos (top + i)) (pos (left + j)) -ℤ sender p e n t (pos (top + i)) (pos (left + j))) ≡ (G (pos (top + i)) -ℤ G (pos (top + i) -ℤ pos t.down)) +ℤ S i
    whole i =
        ΣSub w (λ j. F (pos (top + i)) (pos (left + j))) (λ j. sender p e n t (pos (top + i)) (pos (left + j)))
        ∙ through (G (pos (top + i))) (G (pos (top + i) -ℤ pos t.down)) (Σ< w (λ j. sender p e n t (pos (top + i)) (pos (left + j))))

-- ---- all taps over the rectangle
weighted_swap : (n : ℕ) (ts : List Tap) (g : Tap → ℕ → ℤ) → Σ< n (λ i. Σ∈ ts (λ t. pos t.weight *ℤ g t i)) ≡ Σ∈ ts (λ t. pos t.weight *ℤ Σ< n (g t))
weighted_swap n ts g = ΣSwap n ts (λ t i. pos t.weight *ℤ g t i) ∙ Σ∈Ext ts _ _ (λ t. ΣMul n (pos t.weight) (g t))

weighted_grid : (h w : ℕ) (ts : List Tap) (g : Tap → ℕ → ℕ → ℤ) → grid h w (λ i j. Σ∈ ts (λ t. pos t.weight *ℤ g t i j)) ≡ Σ∈ ts (λ t. pos t.weight *ℤ grid h w (g t))
weighted_grid h w ts g = ΣExt h _ _ (λ i l. weighted_swap w ts (λ t j. g t i j)) ∙ weighted_swap h ts (λ t i. Σ< w (g t i))

less_taps : (ts : List Tap) (z : ℤ) (g : Tap → ℤ) → pos (weights ts) *ℤ z -ℤ Σ∈ ts (λ t. pos t.weight *ℤ g t) ≡ Σ∈ ts (λ t. pos t.weight *ℤ (z -ℤ g t))
less_taps [] z g = omega (arith, ints)
less_taps (t ∷ ts) z g =
    rw (sum_by-cons (λ (t : Tap). t.weight) t ts) (omega (arith, ints, add_mul (pos t.weight) (pos (weights ts)) z, mul_sub (pos t.weight) z (g t), less_taps ts z g))

all_taps_abs : (ts : List Tap) (g : Tap → ℤ) (h w E : ℕ) → ((t : Tap) → nat_abs (g t) ≤ 2 * t.down * (w * E) + h * (2 * nat_abs t.ahead * E)) →
    nat_abs (Σ∈ ts (λ t. pos t.weight *ℤ g t)) ≤ 2 * E * (over (λ t. t.weight * nat_abs t.ahead) ts * h + over (λ t. t.weight * t.down) ts * w)
all_taps_abs [] g h w E b = omega arith
all_taps_abs (t ∷ ts) g h w E b =
    let one = unsigned_abs-mul (pos t.weight) (g t) in
    let times = mul-le-mul_left t.weight (b t) in
    let more = all_taps_abs ts g h w E b in
    let both = abs_add (pos t.weight *ℤ g t) (Σ∈ ts (λ t. pos t.weight *ℤ g t)) in
    rw (sum_by-cons (λ (t : Tap). t.weight * nat_abs t.ahead) t ts, sum_by-cons (λ (t : Tap). t.weight * t.down) t ts) (omega arith)

-- ---- the rests along a row
module _ (p : Page) (K : Shape) (s : Trace) (n : ℕ) (w : 1 ≤ p.width) (B : ℕ) (small : (k : ℕ) → k < n → nat_abs (s.rest k) ≤ B) where
  -- the rest after q cells of row r
  held : ℕ → ℕ → ℤ
  held r zero = pos 0
  held r (suc q) = given (ltb (r * p.width + q) n) (s.rest (r * p.width + q))

  held_abs : (r q : ℕ) → nat_abs (held r q) ≤ B
  unfolding held
  held_abs r zero = omega arith
  held_abs r (suc q) = let b = small (r * p.width + q) in grind (arith, ints)

  rest_held : (r q : ℕ) → r * p.width + q < n → s.rest (r * p.width + q) ≡ held r (suc q)
  unfolding held
  rest_held r q l = grind arith

  hand_held : (r q : ℕ) → q < p.width → r * p.width + q < n → in_hand p K s (r * p.width + q) ≡ held r q
  unfolding held in_hand
  hand_held r q h l = go (r * p.width + q) refl
    where
      go : (k : ℕ) → r * p.width + q ≡ k → in_hand p K s k ≡ held r q
      go k e = grind (arith, mod-mul-add r p.width q h)

  gap : ℕ → ℕ → ℤ
  gap r q = s.rest (r * p.width + q) -ℤ in_hand p K s (r * p.width + q)

  gap_is : (r q a : ℕ) → q < p.width → r * p.width + q < n → a ≡ suc q → gap r q ≡ held r a -ℤ held r q
  unfolding gap
  gap_is r q a h l e = rw (e, rest_held r q l, hand_held r q h l)

  row_rests : (r left wide : ℕ) → left + wide ≤ p.width → ((j : ℕ) → j < wide → number p r (left + j) < n) →
      nat_abs (Σ< wide (λ j. s.rest (number p r (left + j)) -ℤ in_hand p K s (number p r (left + j)))) ≤ 2 * B
  unfolding number gap
  row_rests r left wide fits done = go (backward p r) done
    where
      ends : (a b : ℕ) → nat_abs (held r a -ℤ held r b) ≤ 2 * B
      ends a b = omega (arith, abs_sub (held r a) (held r b), held_abs r a, held_abs r b)

      go : (b : Bool) → ((j : ℕ) → j < wide → r * p.width + cond b (p.width - 1 - (left + j)) (left + j) < n) →
          nat_abs (Σ< wide (λ j. gap r (cond b (p.width - 1 - (left + j)) (left + j)))) ≤ 2 * B
      go false done =
          rw (ΣExt wide (λ j. gap r (left + j)) (λ j. held r (left + suc j) -ℤ held r (left + j)) (λ j l. gap_is r (left + j) (left + suc j) (omega arith) (done j l) (omega arith))
          ∙ ΣTelescope wide (λ j. held r (left + j)))
          (ends (left + wide) (left + 0))
      go true done =
          rw (ΣExt wide (λ j. gap r (p.width - 1 - (left + j))) (λ j. held r (p.width - (left + j)) -ℤ held r (p.width - (left + suc j))) (λ j l.
          let f : p.width - (left + suc j) ≡ p.width - 1 - (left + j) = omega arith in
          rw f (gap_is r (p.width - 1 - (left + j)) (p.width - (left + j)) (omega arith) (done j l) (omega arith)))
          ∙ ΣTelescopeDown wide (λ j. held r (p.width - (left + j))))
          (ends (p.width - (left + 0)) (p.width - (left + wide)))

-- ---- the rectangle
cell_is : (d x y e u q b hand R w : ℤ) → R ≡ b +ℤ hand -ℤ d *ℤ q → e ≡ u -ℤ y → u ≡ x +ℤ q →
    d *ℤ (x -ℤ y) ≡ (d -ℤ w) *ℤ e +ℤ (w *ℤ e -ℤ b) +ℤ (R -ℤ hand)
cell_is d x y e u q b hand R w r f g =
    let z : x -ℤ y ≡ e -ℤ q = omega (arith, ints) in
    rw z (omega (arith, ints, mul_sub d e q, sub_mul d w e))

module _ (p : Page) (K : Shape) (s : Trace) (n E : ℕ) (w : 1 ≤ p.width) (sound : Sound K) (on : n ≤ cells p) (done : Diffused p K s n)
    (small : (k : ℕ) → k < n → nat_abs (s.error k) ≤ E) (free : (k : ℕ) → k < n → used p K s k ≡ wanted p K s k)
    (top left high wide : ℕ) (rect : Rectangle p n top left high wide) where
  k : ℕ → ℕ → ℕ
  k i j = number p (top + i) (left + j)

  kept : ℕ → ℕ → ℤ
  kept i j = (pos K.divisor -ℤ pos (weights K.taps)) *ℤ s.error (k i j)

  moved : ℕ → ℕ → ℤ
  moved i j = pos (weights K.taps) *ℤ s.error (k i j) -ℤ pending p K s (k i j) (k i j)

  rests : ℕ → ℕ → ℤ
  rests i j = s.rest (k i j) -ℤ in_hand p K s (k i j)

  parts : grid high wide (λ i j. pos K.divisor *ℤ (s.sample (k i j) -ℤ s.tone (k i j))) ≡ grid high wide kept +ℤ grid high wide moved +ℤ grid high wide rests
  unfolding kept moved rests k
  parts =
      grid_ext high wide _ (λ i j. kept i j +ℤ moved i j +ℤ rests i j) (λ i j l m. let d = rect.all_done i j l m in
      cell_is (pos K.divisor) (s.sample (k i j)) (s.tone (k i j)) (s.error (k i j)) (used p K s (k i j)) (quotient p K s (k i j)) (pending p K s (k i j) (k i j)) (in_hand p K s (k i j)) (s.rest (k i j)) (pos (weights K.taps))
      (done.rests (k i j) d) (done.errors (k i j) d) (free (k i j) d))
      ∙ grid_add high wide (λ i j. kept i j +ℤ moved i j) rests ∙ ap (λ z. z +ℤ grid high wide rests) (grid_add high wide kept moved)

  kept_abs : nat_abs (grid high wide kept) ≤ high * (wide * ((K.divisor - weights K.taps) * E))
  unfolding kept k
  kept_abs = grid_abs high wide _ kept (λ i j l m.
      let few = sound.at_most in
      let z : pos K.divisor -ℤ pos (weights K.taps) ≡ pos (K.divisor - weights K.taps) = omega (arith, ints) in
      rw (z, unsigned_abs-mul (pos (K.divisor - weights K.taps)) (s.error (k i j))) (mul-le-mul_left (K.divisor - weights K.taps) (small (k i j) (rect.all_done i j l m))))

  rests_abs : nat_abs (grid high wide rests) ≤ high * (2 * (K.divisor - 1))
  unfolding rests k
  rests_abs = ΣAbs high (2 * (K.divisor - 1)) _ (λ i l. row_rests p K s n w (K.divisor - 1) (rests_small p K s n sound.some_divisor done) (top + i) left wide rect.columns (λ j m. rect.all_done i j l m))

  moved_is : (i j : ℕ) → i < high → j < wide → moved i j ≡ Σ∈ K.taps (λ t. pos t.weight *ℤ (error_at p s.error n (pos (top + i)) (pos (left + j)) -ℤ sender p s.error n t (pos (top + i)) (pos (left + j))))
  unfolding moved k
  moved_is i j l m =
      let d = rect.all_done i j l m in
      let r : top + i < p.height = omega (arith, rect.rows) in
      let c : left + j < p.width = omega (arith, rect.columns) in
      rw (brought_is p K s n (number p (top + i) (left + j)) w sound.each_ahead (omega arith) (omega arith), row_number p (top + i) (left + j) c, column_number p (top + i) (left + j) c, ← error_at_done p s.error n (top + i) (left + j) r c d)
      (less_taps K.taps (error_at p s.error n (pos (top + i)) (pos (left + j))) (λ t. sender p s.error n t (pos (top + i)) (pos (left + j))))

  moved_abs_all : nat_abs (grid high wide moved) ≤ 2 * E * (across K * high + downward K * wide)
  moved_abs_all =
      rw (grid_ext high wide moved _ moved_is ∙ weighted_grid high wide K.taps (λ t i j. error_at p s.error n (pos (top + i)) (pos (left + j)) -ℤ sender p s.error n t (pos (top + i)) (pos (left + j))))
      (all_taps_abs K.taps _ high wide E (λ t. tap_abs p s.error n E small t top left high wide))

  pub rectangle_abs : nat_abs (inside p top left high wide (λ k. pos K.divisor *ℤ (s.sample k -ℤ s.tone k)))
      ≤ 2 * E * (across K * high + downward K * wide) + 2 * (K.divisor - 1) * high + (K.divisor - weights K.taps) * E * high * wide
  unfolding k
  rectangle_abs =
      rw parts
      (omega (arith, abs_add (grid high wide kept +ℤ grid high wide moved) (grid high wide rests), abs_add (grid high wide kept) (grid high wide moved), kept_abs, rests_abs, moved_abs_all))

pub faithful : (p : Page) (K : Shape) (N : ℕ) (s : ℕ → Trace) (n : ℕ) (lo hi : ℤ) (E : ℕ) → Ranged p K N s n lo hi E →
    (c : ℕ) → c < N → RectanglesWithin E p K (s c) n
faithful p K N s n lo hi E run c l top left h w rect =
    rectangle_abs p K (s c) n E run.page.0 run.sound run.page.1 (run.diffused c l) (bounded p K N s n lo hi E run c l).0 (unclipped p K N s n lo hi E run c l) top left h w rect
