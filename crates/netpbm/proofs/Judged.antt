-- A field's fault, from what went wrong in it.
use Rattle.std.proofs.Common.{◌≡◌, ℕ, ◌<◌, true, false, List, length, get_or, Err, sym, ap, ◌∙◌, subst, true≢false, nat_eq, [], ◌∷◌, arith}
use Rattle.std.proofs.lemmas.Bool.Decides.{nat_tests}
use Rattle.std.specs.List.{starts_with}
use Rattle.netpbm.specs.Fields.{white, NoField, after_white}
use Rattle.netpbm.specs.Fields as fields
use Rattle.netpbm.specs.Headers.{Lettered, MaximumRefused, no_last_field}
use Rattle.netpbm.specs.Headers.{Reading}
use Rattle.netpbm.specs.Refusals.{told, refusal}
use Rattle.netpbm.specs.declared.fault.PageFault.{PageFault}

-- a field ends at one place only
pub one_end : (bs : List ℕ) (p v q v' q' : ℕ) → fields.Field bs p v q → fields.Field bs p v' q' → q ≡ q'
one_end bs p v q v' q' f g = f.reads.whole ∙ sym g.reads.whole

-- a field with no white byte after it ends no header
pub not_ended : (bs : List ℕ) (p v q : ℕ) → fields.Field bs p v q → (q < length bs → white (get_or bs q 0) ≡ false) → MaximumRefused bs p 16
not_ended bs p v q f dark = no_last_field (λ v' q' l.
    let e : q' ≡ q = one_end bs p v' q' v q l.field f in
    let within : q < length bs = omega (arith, l.within) in
    true≢false (sym l.ended ∙ (ap (λ n. white (get_or bs n 0)) e ∙ dark within)))

-- the first two bytes, as the library compares them
pub lettered : (l : ℕ) (bs : List ℕ) → starts_with nat_eq bs (80 ∷ l ∷ []) ≡ true → Lettered l bs
lettered l [] e = absurd (cc)
lettered l (a ∷ []) e = absurd (grind (arith, nat_tests, e))
lettered l (a ∷ (b ∷ rest)) e = record { both = omega arith; first = grind (arith, nat_tests, e); second = grind (arith, nat_tests, e) }

pub not_lettered : (l : ℕ) (bs : List ℕ) → starts_with nat_eq bs (80 ∷ l ∷ []) ≡ false → Lettered l bs → ⊥
not_lettered l [] e t = omega (arith, t.both)
not_lettered l (a ∷ []) e t = omega (arith, t.both)
not_lettered l (a ∷ (b ∷ rest)) e t = grind (arith, nat_tests, e, t.first, t.second)

-- a refused field refuses the header at the byte where it starts
pub refused : (l : ℕ) (bs : List ℕ) (p : ℕ) (e : PageFault) → (told e).byte ≡ p → Reading l bs (Err (refusal (told e).number p))
    → Reading l bs (Err (told e))
refused l bs p e at r = subst (λ (b : ℕ). Reading l bs (Err (refusal (told e).number b))) (sym at) r
