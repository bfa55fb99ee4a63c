-- The published kernels. The tables are written out, and not read from the constants of the code: so a wrong tap there is refused.
use Rattle.std.specs.Prelude.{◌≡◌, ℕ, true, List, [], ◌∷◌, map, pos, neg_ℤ}
use Rattle.std.specs.List.{list_all}
use Rattle.kernel.specs.declared.tap.Tap.{Tap}
use Rattle.kernel.specs.declared.tables.Published.{Published}
use Rattle.kernel.specs.declared.tables.Published.TheVariants as name
use Rattle.kernel.specs.Rules.{Shape, shape, tap, weights, valid}

-- a tap so many columns ahead, and one so many columns back
abbrev fore : ℕ → ℕ → ℕ → Tap
fore d a w = tap d (pos a) w

abbrev back : ℕ → ℕ → ℕ → Tap
back d a w = tap d (neg_ℤ (pos a)) w

abbrev pub floyd : Shape
floyd = shape 16 (fore 0 1 7 ∷ back 1 1 3 ∷ fore 1 0 5 ∷ fore 1 1 1 ∷ [])

abbrev pub jarvis : Shape
jarvis = shape 48 (
    fore 0 1 7 ∷ fore 0 2 5
    ∷ back 1 2 3 ∷ back 1 1 5 ∷ fore 1 0 7 ∷ fore 1 1 5 ∷ fore 1 2 3
    ∷ back 2 2 1 ∷ back 2 1 3 ∷ fore 2 0 5 ∷ fore 2 1 3 ∷ fore 2 2 1 ∷ [])

abbrev pub sierra3 : Shape
sierra3 = shape 32 (
    fore 0 1 5 ∷ fore 0 2 3
    ∷ back 1 2 2 ∷ back 1 1 4 ∷ fore 1 0 5 ∷ fore 1 1 4 ∷ fore 1 2 2
    ∷ back 2 1 2 ∷ fore 2 0 3 ∷ fore 2 1 2 ∷ [])

abbrev pub sierra2 : Shape
sierra2 = shape 16 (
    fore 0 1 4 ∷ fore 0 2 3
    ∷ back 1 2 1 ∷ back 1 1 2 ∷ fore 1 0 3 ∷ fore 1 1 2 ∷ fore 1 2 1 ∷ [])

abbrev pub sierra1 : Shape
sierra1 = shape 4 (fore 0 1 2 ∷ back 1 1 1 ∷ fore 1 0 1 ∷ [])

abbrev pub atkinson : Shape
atkinson = shape 8 (fore 0 1 1 ∷ fore 0 2 1 ∷ back 1 1 1 ∷ fore 1 0 1 ∷ fore 1 1 1 ∷ fore 2 0 1 ∷ [])

-- the kernel of a name
abbrev pub table : Published → Shape
table name.Floyd = floyd
table name.Jarvis = jarvis
table name.Sierra3 = sierra3
table name.Sierra2 = sierra2
table name.Sierra1 = sierra1
table name.Atkinson = atkinson

abbrev pub tables : List Shape
tables = floyd ∷ jarvis ∷ sierra3 ∷ sierra2 ∷ sierra1 ∷ atkinson ∷ []

-- all six keep the rules; their weights fill the divisor, but for Atkinson's, which pass on six of eight parts
abbrev pub Checked : Type 0
Checked = (list_all valid tables ≡ true) × (map (λ s. weights s.taps) tables ≡ 16 ∷ 48 ∷ 32 ∷ 16 ∷ 4 ∷ 6 ∷ [])
