-- A search that goes up stops at the first that there is.
use Rattle.std.proofs.Common.{◌≡◌, ℕ, zero, suc, ◌+◌, ◌<◌, Some, None, Option, sym, refl, ap, ◌∙◌, ⊎_elim, not-suc-le-zero, add-one, arith}
use Rattle.std.proofs.lemmas.Bool.{cases_eq}
use Rattle.preview.specs.Missing.{first}

pub first_more : {X : Type 0} (f : ℕ → Option X) (n : ℕ) → first f n ≡ None → f n ≡ None → first f (n + 1) ≡ None
first_more f n e h = rw (add-one n, e) h

pub first_here : {X : Type 0} (f : ℕ → Option X) (n : ℕ) → first f n ≡ None → first f (n + 1) ≡ f n
first_here f n e = rw (add-one n, e) refl

pub first_stops : {X : Type 0} (f : ℕ → Option X) (k n : ℕ) (x : X) → first f k ≡ None → f k ≡ Some x → k < n → first f n ≡ Some x
first_stops f k zero x e h l = absurd (not-suc-le-zero l)
first_stops f k (suc n) x e h l =
    ⊎_elim
    (λ same. let none : first f n ≡ None = ap (first f) (sym same) ∙ e in let here : f n ≡ Some x = ap f (sym same) ∙ h in rw none here)
    (λ other. rw (first_stops f k n x e h (omega arith)) refl)
    (cases_eq k n)
