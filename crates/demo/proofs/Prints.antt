-- One place more is printed.
use Rattle.std.proofs.Common.{◌≡◌, ℕ, ◌+◌, ◌*◌, ◌/◌, ◌%◌, ◌<◌, Bool, true, false, cond, ◌&&◌, eqb, leb, List, ◌++◌, length, take, drop, Ok, Err, IsOk, Result, sym, refl, ap, ◌∙◌, ⊎_elim, arith}
use Rattle.std.proofs.lemmas.List.{take_at}
use Rattle.writer.specs.Buffers.{Wrote}
use Rattle.std.proofs.lemmas.Nat.{div-mul-add, mod-mul-add}
use Rattle.std.proofs.lemmas.Bool.{cases_eq, cases_Bool, eq-eqb, eqb-true, lt-ltb}
use Rattle.ink.specs.Inks.{Inks}
use Rattle.sheet.specs.declared.fault.SheetFault.{SheetFault}
use Rattle.sheet.specs.Laying.{Laid, put, fault_number, laying, numbered}
use Rattle.sheet.specs.Meaning.{SheetMeaning}
use Rattle.source.specs.Pages.{Page, Place, tone, missing}
use Rattle.demo.specs.Nearest.{nearest, Printed}

-- the nearest ink is an ink of the set
pub nearest_below : {T : Type 0} (n : ℕ) (value : T → ℕ → ℕ) (m : Inks T) (p : Place T) → nearest n value m p < m.number
nearest_below n value m (tone t) = m.below _
nearest_below n value m (missing s) = m.some

-- a number below the limit is laid at each place of a sheet
pub laid_there : (m : SheetMeaning) (r c number : ℕ) (x : Result (Unit {0}) SheetFault) → r < m.height → c < m.width → number < m.limit
    → numbered x ≡ laying m r c number → IsOk x
laid_there m r c number (Ok u) high wide low e = refl
laid_there m r c number (Err f) high wide low e =
    let no : ◌≡◌ {A = Result (Unit {0}) ℕ} (Err (fault_number f)) (Ok tt) = rw (lt-ltb r m.height high, lt-ltb c m.width wide, lt-ltb number m.limit low) at e in
    let z : ◌≡◌ {A = ℕ} 0 1 = cc in absurd (omega arith)

both_false : (a b : Bool) (x y : ℕ) → (a ≡ true → b ≡ true → ⊥) → cond (a && b) x y ≡ y
both_false true true x y never = absurd (never refl refl)
both_false true false x y never = refl
both_false false b x y never = refl

module _ {T : Type 0} (n : ℕ) (value : T → ℕ → ℕ) (m : Inks T) (p : Page T) (s t : SheetMeaning) (row column number : ℕ) (inside : column < p.width)
    (done : Printed n value m p s (row * p.width + column)) (laid : Laid s t row column number) (chosen : number ≡ nearest n value m (p.place row column)) where
  here : (r c : ℕ) → c < p.width → r * p.width + c ≡ row * p.width + column → (r ≡ row) × (c ≡ column)
  here r c q e = (
    sym (div-mul-add r p.width c q) ∙ (ap (λ x. x / p.width) e ∙ div-mul-add row p.width column inside),
    sym (mod-mul-add r p.width c q) ∙ (ap (λ x. x % p.width) e ∙ mod-mul-add row p.width column inside),
  )

  ink_now : (r c : ℕ) → r < p.height → c < p.width → t.ink r c ≡ put s.ink row column number r c
  ink_now r c a b = laid.inks r c (omega (arith, done.height)) (omega (arith, done.width))

  pub printed_more : Printed n value m p t (row * p.width + (column + 1))
  printed_more = record {
    width = laid.width ∙ done.width;
    height = laid.height ∙ done.height;
    inks = λ r c a b below.
        ⊎_elim
        (λ e. let at = here r c b e in
        let x = at.0 in
        let y = at.1 in
        let now : put s.ink row column number r c ≡ number = rw (eq-eqb r row x, eq-eqb c column y) refl in
        let same : nearest n value m (p.place row column) ≡ nearest n value m (p.place r c) = cc in
        ink_now r c a b ∙ (now ∙ (chosen ∙ same)))
        (λ ne. ink_now r c a b ∙ (both_false (eqb r row) (eqb c column) number (s.ink r c)
        (λ x y. let u = eqb-true r row x in let v = eqb-true c column y in ne (cc)) ∙ done.inks r c a b (omega arith)))
        (cases_eq (r * p.width + c) (row * p.width + column));
  }

-- what a page that was written leaves at the start of the buffer
pub taken_page : (page before after : List ℕ) (k : ℕ) → Wrote page before after (Ok k) → take k after ≡ page
taken_page page before after k w =
    ⊎_elim
    (λ fits. let long : k ≡ length page = (let same : ◌≡◌ {A = Result ℕ ℕ} (Ok k) (Ok (length page)) = w.answer ∙ rw fits refl in cc) in
    let whole : after ≡ page ++ drop (length page) before = w.buffer ∙ rw fits refl in
    ap (take k) whole ∙ take_at page (drop (length page) before) k (sym long))
    (λ short. let bad : ◌≡◌ {A = Result ℕ ℕ} (Ok k) (Err 19) = w.answer ∙ rw short refl in let z : ◌≡◌ {A = ℕ} 0 1 = cc in absurd (omega arith))
    (cases_Bool (leb (length page) (length before)))

-- the front of a Vec after its slice was written to
pub refill_front : (ws xs : List ℕ) (n k : ℕ) → length ws ≡ n → take k (take n (ws ++ drop (length ws) xs)) ≡ take k ws
refill_front ws xs n k long = ap (take k) (take_at ws (drop (length ws) xs) n long)
