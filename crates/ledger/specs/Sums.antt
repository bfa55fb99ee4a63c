-- Finite sums of whole numbers.
use Rattle.std.specs.Prelude.{ℕ, zero, suc, Bool, true, false, List, [], ◌∷◌, ℤ, pos, ◌+ℤ◌}

-- f 0 + .. + f (n - 1)
abbrev pub Σ< : ℕ → (ℕ → ℤ) → ℤ
Σ< zero f = pos 0
Σ< (suc n) f = Σ< n f +ℤ f n

-- the sum of f over a list
abbrev pub Σ∈ : {X : Type 0} → List X → (X → ℤ) → ℤ
Σ∈ [] f = pos 0
Σ∈ (x ∷ xs) f = f x +ℤ Σ∈ xs f

-- z where the test passes, else 0
abbrev pub given : Bool → ℤ → ℤ
given true z = z
given false z = pos 0
