-- The channel values that a tone is built from.
use Rattle.std.specs.Prelude.{cond, List, [], ◌∷◌, ℕ, ltb}

-- f i for each channel i of a kind with n channels, and 0 in the places that belong to no channel
abbrev pub channels_of : ℕ → (ℕ → ℕ) → List ℕ
channels_of n f = cond (ltb 0 n) (f 0) 0 ∷ (cond (ltb 1 n) (f 1) 0 ∷ (cond (ltb 2 n) (f 2) 0 ∷ []))
