-- The rules as a relation, beside the definition that computes, and the two theorems that join them.
use Rattle.std.specs.Prelude.{◌≡◌, ℕ, ◌<◌, ℤ, pos}
use Rattle.ledger.specs.Ledger.{Trace, Diffused}
use Rattle.ledger.specs.Dots.{Setup, values, ink_of, run}

-- The first n cells are done by the rules: in every channel rest and error are those of the rules, and each cell has the ink chosen for its values in all channels.
pub record Follows (S : Setup) (s : ℕ → Trace) (ink : ℕ → ℕ) (n : ℕ) : Type 0 where
  pub diffused : (c : ℕ) → c < S.channels → Diffused S.page S.kernel (s c) n
  pub tones : (c k : ℕ) → c < S.channels → k < n → (s c).tone k ≡ pos (S.inks.tone (ink k) c)
  pub chosen : (k : ℕ) → k < n → ink k ≡ S.inks.choice (values S s k)

-- The run that is computed follows the rules.
abbrev pub Met : Type 0
Met = (S : Setup) (x : ℕ → ℕ → ℤ) (n : ℕ) → Follows S (run S x) (ink_of S x) n

-- Two runs agree at cell k.
pub record Agree (S : Setup) (s t : ℕ → Trace) (i j : ℕ → ℕ) (k : ℕ) : Type 0 where
  pub ink : i k ≡ j k
  pub tone : (c : ℕ) → c < S.channels → (s c).tone k ≡ (t c).tone k
  pub error : (c : ℕ) → c < S.channels → (s c).error k ≡ (t c).error k
  pub rest : (c : ℕ) → c < S.channels → (s c).rest k ≡ (t c).rest k

-- The rules fix every ink, error and rest: runs that take the same samples agree.
abbrev pub Fixed : Type 0
Fixed =
    (S : Setup) (s t : ℕ → Trace) (i j : ℕ → ℕ) (n : ℕ) → Follows S s i n → Follows S t j n →
    ((c k : ℕ) → c < S.channels → k < n → (s c).sample k ≡ (t c).sample k) →
    (k : ℕ) → k < n → Agree S s t i j k
