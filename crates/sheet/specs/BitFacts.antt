-- The laws of packed bits.
use Rattle.std.specs.Prelude.{◌≡◌, ℕ, zero, suc, ◌+◌, ◌-◌, ◌*◌, ◌/◌, ◌%◌, ◌<◌, ◌≤◌, cond, ◌&&◌, ◌==◌}
use Rattle.std.proofs.Common.{sym, refl, ap, ◌∙◌, ⊎_elim, ltb, add-zero, arith}
use Rattle.std.proofs.lemmas.Bool.{cases_lt, cond_both, eqb-false, eqb-true, le-ltb, lt-ltb}
use Rattle.std.proofs.lemmas.Nat.Bits.{same_from_bits_below}
use Rattle.sheet.specs.Memory.{bit, bit_of_place, bit_packing, byte_of_row}
use Rattle.sheet.specs.Packing.{PackingLaws}

place_small : (w r c : ℕ) (f : ℕ → ℕ → ℕ) → bit_of_place w f r c ≤ 1
place_small w r c f = cond_both (ltb c w && f r c == 0) 1 0 (λ x. x ≤ 1) (λ e. omega arith) (λ e. omega arith)

place_same : (w r c : ℕ) (f g : ℕ → ℕ → ℕ) → (c < w → f r c ≡ g r c) → bit_of_place w f r c ≡ bit_of_place w g r c
place_same w r c f g e =
    ⊎_elim (λ l. ap (λ x. cond (ltb c w && x == 0) 1 0) (e l)) (λ h. rw (le-ltb c w h) refl) (cases_lt c w)

place_is : (w r c : ℕ) (f : ℕ → ℕ → ℕ) → c < w → f r c < 2 → 1 - bit_of_place w f r c ≡ f r c
place_is w r c f l s =
    rw (lt-ltb c w l)
    (cond_both (f r c == 0) 1 0 (λ x. 1 - x ≡ f r c)
    (λ e. let z = eqb-true (f r c) 0 e in omega (arith, z)) (λ e. let z = eqb-false (f r c) 0 e in omega (arith, s)))

-- the bits of a byte of a row
module _ (w r j : ℕ) (f : ℕ → ℕ → ℕ) where
  small : (k : ℕ) → bit_of_place w f r k ≤ 1
  small k = place_small w r k f

  pub row_small : byte_of_row w f r j < 256
  row_small = omega (arith, small)

  pub row_bit : (k : ℕ) → k < 8 → bit (byte_of_row w f r j) k ≡ bit_of_place w f r (8 * j + k)
  row_bit zero l = rw add-zero (omega (arith, small))
  row_bit (suc zero) l = omega (arith, small)
  row_bit (suc (suc zero)) l = omega (arith, small)
  row_bit (suc (suc (suc zero))) l = omega (arith, small)
  row_bit (suc (suc (suc (suc zero)))) l = omega (arith, small)
  row_bit (suc (suc (suc (suc (suc zero))))) l = omega (arith, small)
  row_bit (suc (suc (suc (suc (suc (suc zero)))))) l = omega (arith, small)
  row_bit (suc (suc (suc (suc (suc (suc (suc zero))))))) l = omega (arith, small)
  row_bit (suc (suc (suc (suc (suc (suc (suc (suc k)))))))) l = absurd (omega arith)

  -- a byte with these bits is that byte
  pub row_byte_is : (b : ℕ) → b < 256 → ((k : ℕ) → k < 8 → bit b k ≡ bit_of_place w f r (8 * j + k)) → b ≡ byte_of_row w f r j
  row_byte_is b l e =
      same_from_bits_below 8 b (byte_of_row w f r j) l row_small
      (λ i m. let back : 7 - (7 - i) ≡ i = omega arith in rw back at (e (7 - i) (omega arith) ∙ sym (row_bit (7 - i) (omega arith))))

pub bit_laws : PackingLaws bit_packing
bit_laws = record {
  some = omega arith;
  few = omega arith;
  short = λ w. omega arith;
  inside = λ w c l. omega arith;
  holds = λ w f r c l s. let whole : 8 * (c / 8) + c % 8 ≡ c = omega arith in
      rw (row_bit w r (c / 8) f (c % 8) (omega arith), whole) (place_is w r c f l s);
  local = λ w f g r j l e. row_byte_is w r j g (byte_of_row w f r j) (row_small w r j f)
      (λ k m. row_bit w r j f k m ∙ place_same w r (8 * j + k) f g (λ n. e (8 * j + k) n (omega arith)));
}
