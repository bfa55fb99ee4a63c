-- Bits read one after the other.
use Rattle.std.proofs.Common.{◌≡◌, ℕ, zero, suc, ◌+◌, ◌*◌, ◌^◌, ◌<◌, ◌≤◌, ap, ◌∙◌, add-zero, arith}
use Rattle.std.proofs.Math.Pow.{pow_mono}
use Rattle.sheet.specs.Memory.{bit_of_place, byte_of_row}

-- f at, f (at + 1), .., of which there are k, as a number in binary
abbrev pub leading : (ℕ → ℕ) → ℕ → ℕ → ℕ
leading f at zero = 0
leading f at (suc k) = 2 * leading f at k + f (at + k)

leading_below : (f : ℕ → ℕ) (at k : ℕ) → ((i : ℕ) → f i ≤ 1) → leading f at k < 2 ^ k
leading_below f at zero bit = omega arith
leading_below f at (suc k) bit = omega (arith, leading_below f at k bit, bit (at + k))

-- below the eighth bit there is room in a byte for one more
pub bit_fits : (f : ℕ → ℕ) (at k : ℕ) → ((i : ℕ) → f i ≤ 1) → k < 8 → 2 * leading f at k + 1 ≤ 255
bit_fits f at k bit h = let most : 2 ^ k ≤ 2 ^ 7 = pow_mono {i = k} {j = 7} (omega arith) in omega (arith, leading_below f at k bit, most)

-- eight bits are a byte of a packed row
pub byte_is : (width : ℕ) (ink : ℕ → ℕ → ℕ) (row j k : ℕ) → k ≡ 8 → leading (bit_of_place width ink row) (8 * j) k ≡ byte_of_row width ink row j
byte_is width ink row j k e =
    let f : ℕ → ℕ = bit_of_place width ink row in
    ap (leading f (8 * j)) e ∙ omega (arith, ap f (add-zero (8 * j)))
