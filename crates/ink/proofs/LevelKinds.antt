-- What the definitions of levels come to for one channel and for three.
use Rattle.std.proofs.Common.{◌≡◌, ℕ, ◌+◌, ◌*◌, ◌/◌, ◌%◌, ◌^◌, List, [], ◌∷◌, get_or, ℤ, pos, ap, ◌∙◌, zero-mul, mul_assoc, arith}
use Rattle.std.proofs.Math.Nat.{div-div-eq-div-mul, div-one, one-mul, pow-suc, pow-zero, zero-add}
use Rattle.ink.specs.LevelRules.{gap_of, level, level_values, levels_choice}

pub grey_number : (n : ℕ) → n ^ 1 ≡ n
grey_number n = pow-suc n 0 ∙ (ap (λ x. x * n) (pow-zero n) ∙ one-mul n)

pub colour_number : (n : ℕ) → n ^ 3 ≡ n * (n * n)
colour_number n =
    pow-suc n 2 ∙ (ap (λ x. x * n) (pow-suc n 1 ∙ ap (λ x. x * n) (grey_number n)) ∙ mul_assoc n n n)

grey_choice : (n : ℕ) (u : List ℤ) → levels_choice n 1 u ≡ level (gap_of n) (get_or u 0 (pos 0))
grey_choice n u = omega arith

grey_values : (n k : ℕ) → level_values n 1 k ≡ k * gap_of n ∷ 0 ∷ 0 ∷ []
grey_values n k = rw (pow-zero n, div-one k)

colour_choice : (n : ℕ) (u : List ℤ) → levels_choice n 3 u
    ≡ (level (gap_of n) (get_or u 0 (pos 0)) * n + level (gap_of n) (get_or u 1 (pos 0))) * n + level (gap_of n) (get_or u 2 (pos 0))
colour_choice n u = rw (zero-mul n, zero-add (level (gap_of n) (get_or u 0 (pos 0))))

colour_values : (n k : ℕ) → level_values n 3 k ≡ k / n / n * gap_of n ∷ k / n % n * gap_of n ∷ k % n * gap_of n ∷ []
colour_values n k =
    let two : n ^ 2 ≡ n * n = pow-suc n 1 ∙ ap (λ x. x * n) (grey_number n) in
    rw (two, grey_number n, pow-zero n, div-one k, ← div-div-eq-div-mul k n n)
