use Rattle.std.proofs.Common.{◌≡◌, ◌≢◌, ℕ, zero, suc, refl, ◌+◌, ◌-◌, ◌*◌, ◌/◌, ◌%◌, ◌^◌, ◌<◌, cond, eqb, ◌∙◌, ⊎_elim, arith}
use Rattle.std.proofs.lemmas.Bool.Decides.{nat_tests}
use Rattle.std.proofs.lemmas.Bool.{cases_eq, ne_eqb}
use Rattle.std.proofs.lemmas.Nat.{and_le_l, or_of_8}
use Rattle.std.proofs.lemmas.Nat.Bits.{bit_at_set_same, bit_at_set_other, bit_at_clear_same, bit_at_clear_other}
use Rattle.std.specs.Int.{w8}
use Rattle.sheet.specs.Laying.{put}
use Rattle.sheet.specs.Memory.{bit, bit_of_place, byte_of_row}
use Rattle.sheet.specs.BitFacts.{row_bit, row_byte_is}
use Rattle.sheet.proofs.bits.BitsPacking.with_ink.Goals as goal

-- bit j from the highest is bit 7 - j from the lowest
mask_is : (j : ℕ) → j < 8 → 128 / 2 ^ j ≡ 1 * 2 ^ (7 - j) % 256
mask_is zero p = refl
mask_is (suc zero) p = refl
mask_is (suc (suc zero)) p = refl
mask_is (suc (suc (suc zero))) p = refl
mask_is (suc (suc (suc (suc zero)))) p = refl
mask_is (suc (suc (suc (suc (suc zero))))) p = refl
mask_is (suc (suc (suc (suc (suc (suc zero)))))) p = refl
mask_is (suc (suc (suc (suc (suc (suc (suc zero))))))) p = refl
mask_is (suc (suc (suc (suc (suc (suc (suc (suc j)))))))) p = absurd (omega arith)

-- the bits of a byte of a row, one of them being changed
relaid : (w r c n b v : ℕ) (f : ℕ → ℕ → ℕ) → c < w → b ≡ byte_of_row w f r (c / 8) → v < 256 → bit v (c % 8) ≡ cond (eqb n 0) 1 0
    → ((k : ℕ) → k < 8 → k ≢ c % 8 → bit v k ≡ bit b k) → v ≡ byte_of_row w (put f r c n) r (c / 8)
relaid w r c n b v f l e small here others =
    row_byte_is w r (c / 8) (put f r c n) v small
    (λ k m.
    let old : bit b k ≡ bit_of_place w f r (8 * (c / 8) + k) = rw e (row_bit w r (c / 8) f k m) in
    ⊎_elim
    (λ (same : k ≡ c % 8). let at : 8 * (c / 8) + k ≡ c = omega arith in rw (at, same) (grind (arith, nat_tests)))
    (λ other. let at : 8 * (c / 8) + k ≢ c = λ x. other (omega arith) in others k m other ∙ (old ∙ grind (arith, nat_tests)))
    (cases_eq k (c % 8)))

pub returns-then-number-eq0 : goal.returns-then-number-eq0
returns-then-number-eq0 c = λ w f r l e.
    let b = c.args.byte in
    let k = 7 - c.args.column % 8 in
    let black : c.args.number ≡ 0 = omega (arith, c.if-number-eq0.true) in
    rw (mask_is (c.args.column % 8) (omega arith))
    (relaid w r c.args.column c.args.number b _ f l e (or_of_8 b (1 * 2 ^ k % 256) (omega arith) (omega arith))
    (rw black (bit_at_set_same w8 b k (omega arith)))
    (λ i m other. bit_at_set_other w8 b k (omega arith) (7 - i) (λ x. other (omega arith))))

pub returns-else-number-eq0 : goal.returns-else-number-eq0
returns-else-number-eq0 c = λ w f r l e.
    let b = c.args.byte in
    let k = 7 - c.args.column % 8 in
    let white : c.args.number ≢ 0 = λ zero. c.if-number-eq0.false (omega (arith, zero)) in
    rw (mask_is (c.args.column % 8) (omega arith))
    (relaid w r c.args.column c.args.number b _ f l e (omega (arith, and_le_l b (255 - 1 * 2 ^ k % 256)))
    (rw (ne_eqb c.args.number 0 white) (bit_at_clear_same w8 b k (omega arith)))
    (λ i m other. bit_at_clear_other w8 b k (omega arith) (7 - i) (omega arith) (λ x. other (omega arith))))
