-- Whole numbers: the laws of the product, and sizes.
use Rattle.std.proofs.Common.{◌≡◌, ◌+◌, ◌*◌, ◌≤◌, ℤ, ◌+ℤ◌, ◌-ℤ◌, ◌*ℤ◌, neg_ℤ, nat_abs, ap, arith}
use borrow.Author.Differences.{ints, up, down, product_is, sum_is_lem}

pub mul_add : (a b c : ℤ) → a *ℤ (b +ℤ c) ≡ a *ℤ b +ℤ a *ℤ c
mul_add a b c =
    let x = ap (λ n. up a * n) (sum_is_lem b c) in
    let y = ap (λ n. down a * n) (sum_is_lem b c) in
    omega (arith, ints)

pub mul_comm : (a b : ℤ) → a *ℤ b ≡ b *ℤ a
mul_comm a b = omega (arith, ints)

pub mul_neg : (a b : ℤ) → a *ℤ neg_ℤ b ≡ neg_ℤ (a *ℤ b)
mul_neg a b = grind (arith, ints)

pub mul_sub : (a b c : ℤ) → a *ℤ (b -ℤ c) ≡ a *ℤ b -ℤ a *ℤ c
mul_sub a b c = omega (arith, ints, mul_add a b (neg_ℤ c), mul_neg a c)

pub mul_assoc : (a b c : ℤ) → (a *ℤ b) *ℤ c ≡ a *ℤ (b *ℤ c)
mul_assoc a b c =
    let p = product_is a b in
    let q = product_is b c in
    let x₁ = ap (λ n. n * up c) p.0 in
    let x₂ = ap (λ n. n * up c) p.1 in
    let x₃ = ap (λ n. n * down c) p.0 in
    let x₄ = ap (λ n. n * down c) p.1 in
    let y₁ = ap (λ n. up a * n) q.0 in
    let y₂ = ap (λ n. up a * n) q.1 in
    let y₃ = ap (λ n. down a * n) q.0 in
    let y₄ = ap (λ n. down a * n) q.1 in
    omega (arith, ints)

pub abs_add : (a b : ℤ) → nat_abs (a +ℤ b) ≤ nat_abs a + nat_abs b
abs_add a b = omega (arith, ints)

pub abs_sub : (a b : ℤ) → nat_abs (a -ℤ b) ≤ nat_abs a + nat_abs b
abs_sub a b = omega (arith, ints)

pub sub_mul : (a b c : ℤ) → (a -ℤ b) *ℤ c ≡ a *ℤ c -ℤ b *ℤ c
sub_mul a b c = omega (arith, ints, mul_sub c a b)

pub add_mul : (a b c : ℤ) → (a +ℤ b) *ℤ c ≡ a *ℤ c +ℤ b *ℤ c
add_mul a b c = omega (arith, ints, mul_add c a b)
