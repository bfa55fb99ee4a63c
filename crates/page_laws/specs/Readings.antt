-- The grammar of a header settles what reading comes to.
use Rattle.std.specs.Prelude.{◌≡◌, ℕ, List, Result}
use Rattle.netpbm.specs.declared.heading.Header.{Header}
use Rattle.netpbm.specs.Headers.{Reading}
use Rattle.netpbm.specs.Refusals.{Refusal}

-- Every list of bytes has an outcome, a header or a refusal with its byte, and has no other.
abbrev pub OneReading : Type 0
OneReading = (letter : ℕ) (bs : List ℕ) →
    (r : Result Header Refusal) × Reading letter bs r × ((s : Result Header Refusal) → Reading letter bs s → s ≡ r)
