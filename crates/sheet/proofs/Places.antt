-- Places of rows of equal length, numbered row by row, and what holds at them.
use Rattle.std.proofs.Common.{◌≡◌, ℕ, zero, suc, ◌*◌, ◌/◌, ◌%◌, ◌<◌, map, zero-mul, ◌∙◌, arith}
use Rattle.std.proofs.lemmas.Bool.Decides.{nat_tests}
use Rattle.std.proofs.lemmas.Grind.{rows}
use Rattle.std.proofs.lemmas.Nat.{mod_below}
use Rattle.std.proofs.lemmas.List.FromFn.{length-map-range_with_len, get_or-map-range_with_len, fill_by_all}
use Rattle.std.specs.List.{range_with_len}
use Rattle.sheet.specs.Laying.{put}

-- the number k is that of a place
pub row_of : (k w h : ℕ) → k < w * h → k / w < h
row_of k w h l = grind (arith, rows)

pub column_of : (k w h : ℕ) → k < w * h → k % w < w
column_of k zero h l = omega (arith, zero-mul h)
column_of k (suc w) h l = mod_below k (suc w) (omega arith)

-- a place that is not changed
pub put_other : (f : ℕ → ℕ → ℕ) (r c v i j : ℕ) → ((i ≡ r) × (j ≡ c) → ⊥) → put f r c v i j ≡ f i j
put_other f r c v i j ne = grind (arith, nat_tests)

-- lists made by functions that agree at each index
pub same_made : (f g : ℕ → ℕ) (n : ℕ) → ((k : ℕ) → k < n → f k ≡ g k) → map f (range_with_len 0 n) ≡ map g (range_with_len 0 n)
same_made f g n e =
    fill_by_all g (map f (range_with_len 0 n)) n 0 (length-map-range_with_len f 0 n)
    (λ k h. get_or-map-range_with_len f 0 n k k 0 h (omega arith) ∙ e k h)
