-- The steps of the loops over the channels of an ink.
use Rattle.std.proofs.Common.{◌≡◌, ℕ, zero, suc, ◌-◌, ◌*◌, ◌/◌, ◌%◌, ◌^◌, ◌<◌, ◌≤◌, List, length, get_or, set, sym, ap, ◌∙◌, ⊎_elim, arith}
use Rattle.std.proofs.Math.Nat.{div-div-eq-div-mul, mod-eq-sub-div-mul, pow-le-pow_right, pow-suc}
use Rattle.std.proofs.lemmas.Bool.{cases_eq, cond_both, ltb-false, ltb-true}
use Rattle.std.proofs.lemmas.List.{ext_get_or, get_or-set_other, get_or-set_same, length-set}
use Rattle.ink.specs.LevelFacts.{Steps, even, ink_below}
use Rattle.ink.proofs.LevelNearest.{level_in_below, tone_below}
use Rattle.ink.specs.LevelRules.{gap_of, ink_of, level_in, level_values}

-- the number so far is small
pub so_far : {count n : ℕ} → Steps count n → (at : ℕ → ℕ) → ((i : ℕ) → at i < n) → (i : ℕ) → i < count → ink_of n at (suc i) < 256
so_far {count} {n} s at below i p =
    let some : 0 < n = omega (arith, s.two) in
    let more : suc i ≤ count = omega arith in
    omega (arith, ink_below n at below (suc i), pow-le-pow_right some more, s.few)

-- The values of ink k, of c channels, are filled in from the last channel down to channel i; `high` is what is left of k.
pub record Filling (n c k i high : ℕ) (xs : List ℕ) : Type 0 where
  pub some : 1 ≤ i
  pub most : i ≤ c
  pub long : length xs ≡ 3
  pub left : high ≡ k / n ^ (c - i)
  pub done : (j : ℕ) → i ≤ j → j < c → get_or xs j 0 ≡ level_in n c k j * gap_of n
  pub none : (j : ℕ) → c ≤ j → get_or xs j 0 ≡ 0

digit : (n c k i high : ℕ) → 1 < i → i ≤ c → high ≡ k / n ^ (c - i) → high - high / n * n ≡ level_in n c k (i - 1)
digit n c k zero high p q e = absurd (omega arith)
digit n c k (suc zero) high p q e = absurd (omega arith)
digit n c k (suc (suc i)) high p q e =
    let f : c - suc (suc i) ≡ c - 1 - suc i = omega arith in
    let g : suc (suc i) - 1 ≡ suc i = omega arith in
    rw g (sym (mod-eq-sub-div-mul high n) ∙ (ap (λ x. x % n) e ∙ ap (λ x. k / n ^ x % n) f))

pub fill_more : (n c k i high : ℕ) (xs : List ℕ) → Filling n c k i high xs → 1 < i → c ≤ 3
    → Filling n c k (i - 1) (high / n) (set xs (i - 1) ((high - high / n * n) * gap_of n))
fill_more n c k i high xs f p few =
    let x = (high - high / n * n) * gap_of n in
    let e : suc (c - i) ≡ c - (i - 1) = omega (arith, f.most) in
    let in_range : i - 1 < length xs = omega (arith, f.most, f.long) in
    record {
      some = omega arith;
      most = omega (arith, f.most);
      long = length-set xs (i - 1) x ∙ f.long;
      left = ap (λ y. y / n) f.left ∙ (div-div-eq-div-mul k (n ^ (c - i)) n ∙ (ap (λ y. k / y) (sym (pow-suc n (c - i))) ∙ ap (λ y. k / n ^ y) e));
      done = λ j q r.
          ⊎_elim
          (λ z. rw z (get_or-set_same xs (i - 1) x 0 in_range ∙ ap (λ y. y * gap_of n) (digit n c k i high p f.most f.left)))
          (λ nz. get_or-set_other xs (i - 1) j x 0 nz ∙ f.done j (omega arith) r)
          (cases_eq j (i - 1));
      none = λ j q. get_or-set_other xs (i - 1) j x 0 (λ z. omega (arith, f.most, f.some)) ∙ f.none j q;
    }

pub fill_all : (n c k i high : ℕ) (xs : List ℕ) → Filling n c k i high xs → i ≤ 1 → set xs 0 (high * gap_of n) ≡ level_values n c k
fill_all n c k i high xs f p =
    ext_get_or 0 (set xs 0 x) (level_values n c k) (length-set xs 0 x ∙ f.long) at
  where
    x : ℕ
    x = high * gap_of n

    value : ℕ → ℕ
    value j = level_in n c k j * gap_of n

    one : i ≡ 1
    one = omega (arith, f.some)

    first : get_or (set xs 0 x) 0 0 ≡ value 0
    first = get_or-set_same xs 0 x 0 (omega (arith, f.long)) ∙ ap (λ y. y * gap_of n) (f.left ∙ ap (λ y. k / n ^ (c - y)) one)

    rest : (j : ℕ) → 0 < j → j < c → get_or (set xs 0 x) j 0 ≡ value j
    rest j q r = get_or-set_other xs 0 j x 0 (λ z. omega arith) ∙ f.done j (omega (arith, one)) r

    none : (j : ℕ) → c ≤ j → get_or (set xs 0 x) j 0 ≡ 0
    none j q = get_or-set_other xs 0 j x 0 (λ z. omega (arith, f.some, f.most)) ∙ f.none j q

    at : (j : ℕ) → j < length (set xs 0 x) → get_or (set xs 0 x) j 0 ≡ get_or (level_values n c k) j 0
    at zero q = cond_both _ (value 0) 0 (λ y. get_or (set xs 0 x) 0 0 ≡ y) (λ e. first) (λ e. none 0 (ltb-false 0 c e))
    at (suc zero) q = cond_both _ (value 1) 0 (λ y. get_or (set xs 0 x) 1 0 ≡ y) (λ e. rest 1 (omega arith) (ltb-true 1 c e)) (λ e. none 1 (ltb-false 1 c e))
    at (suc (suc zero)) q = cond_both _ (value 2) 0 (λ y. get_or (set xs 0 x) 2 0 ≡ y) (λ e. rest 2 (omega arith) (ltb-true 2 c e)) (λ e. none 2 (ltb-false 2 c e))
    at (suc (suc (suc j))) q = absurd (omega (arith, length-set xs 0 x, f.long))

-- what is left at last is a level
pub left_byte : {c n : ℕ} (k i high : ℕ) (xs : List ℕ) → Steps c n → k < n ^ c → Filling n c k i high xs → i ≤ 1 → high * gap_of n ≤ 255
left_byte {c} {n} k i high xs s p f q =
    let one : i ≡ 1 = omega (arith, f.some) in
    let e : high ≡ level_in n c k 0 = f.left ∙ ap (λ y. k / n ^ (c - y)) one in
    rw e (tone_below n (gap_of n) (even s) (level_in n c k 0) (level_in_below n c k s.two p 0 (omega (arith, f.some, f.most))))
