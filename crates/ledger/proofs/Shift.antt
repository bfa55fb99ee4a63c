-- A sum over a stretch of whole numbers, against the same sum moved along: the ends differ, and nothing else.
use Rattle.std.proofs.Common.{◌≡◌, ℕ, zero, suc, ◌*◌, ◌≤◌, ℤ, pos, negsuc, ◌+ℤ◌, ◌-ℤ◌, nat_abs, ap, arith}
use borrow.Author.Differences.{ints}
use Rattle.ledger.specs.Sums.{Σ<}

-- f a + .. + f (a + n - 1)
abbrev pub stretch : (ℤ → ℤ) → ℤ → ℕ → ℤ
stretch f a n = Σ< n (λ i. f (a +ℤ pos i))

one_along : (f : ℤ → ℤ) (a : ℤ) (n : ℕ) → stretch f (a +ℤ pos 1) n +ℤ f a ≡ stretch f a n +ℤ f (a +ℤ pos n)
one_along f a zero = ap (λ z. pos 0 +ℤ f z) (omega (arith, ints))
one_along f a (suc n) =
    let e = one_along f a n in
    let g : f (a +ℤ pos 1 +ℤ pos n) ≡ f (a +ℤ pos (suc n)) = ap f (omega (arith, ints)) in
    omega (arith, ints, e, g)

along : (f : ℤ → ℤ) (B : ℕ) → ((z : ℤ) → nat_abs (f z) ≤ B) → (a : ℤ) (n m : ℕ) → nat_abs (stretch f (a +ℤ pos m) n -ℤ stretch f a n) ≤ 2 * m * B
along f B h a n zero =
    let e : a +ℤ pos 0 ≡ a = omega (arith, ints) in
    rw e (omega (arith, ints))
along f B h a n (suc m) =
    let e : a +ℤ pos (suc m) ≡ a +ℤ pos m +ℤ pos 1 = omega (arith, ints) in
    rw e (omega (arith, ints, one_along f (a +ℤ pos m) n, h (a +ℤ pos m), h (a +ℤ pos m +ℤ pos n), along f B h a n m))

-- moved by s, to either side
pub moved_abs : (f : ℤ → ℤ) (B : ℕ) → ((z : ℤ) → nat_abs (f z) ≤ B) → (a s : ℤ) (n : ℕ) → nat_abs (stretch f a n -ℤ stretch f (a -ℤ s) n) ≤ 2 * nat_abs s * B
moved_abs f B h a (pos m) n =
    let e : a -ℤ pos m +ℤ pos m ≡ a = omega (arith, ints) in
    rw e at (along f B h (a -ℤ pos m) n m)
moved_abs f B h a (negsuc m) n =
    let e : a -ℤ negsuc m ≡ a +ℤ pos (suc m) = omega (arith, ints) in
    rw e (omega (arith, ints, along f B h a n (suc m)))
