-- A loop that appends f i at its turn i has appended `joined f n` after n turns.
use Rattle.std.proofs.Common.{◌≡◌, ℕ, ◌+◌, List, ◌++◌, ap, ◌∙◌, append_assoc, add-one}
use Rattle.samples.specs.Texts.{joined}

-- one more turn
pub joined_more : (f : ℕ → List ℕ) (n : ℕ) (before now after : List ℕ) → now ≡ before ++ joined f n →
    after ≡ now ++ f n → after ≡ before ++ joined f (n + 1)
joined_more f n before now after e h =
    h ∙ (ap (λ (x : List ℕ). x ++ f n) e ∙ rw add-one (append_assoc before (joined f n) (f n)))
