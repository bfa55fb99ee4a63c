-- A shape is refused exactly where it breaks a rule, and the index told is that of the first bad tap.
use Rattle.std.proofs.Common.{◌≡◌, ℕ, ◌<◌, ◌≤◌, Bool, true, false, cond, not, ◌&&◌, ltb, leb, List, ◌∷◌, length, get_or, Some, None, Option, ap, ◌∙◌, arith}
use Rattle.std.specs.List.{position_or_len}
use Rattle.std.specs.Option.{is_none, option_or, option_map}
use Rattle.std.proofs.lemmas.List.Quantifiers.{position-Some}
use Rattle.std.proofs.lemmas.List.Sums.{fails_before_first}
use Rattle.std.proofs.lemmas.Slice.Zip.{length-zip}
use Rattle.kernel.specs.declared.tap.Tap.{Tap}
use Rattle.kernel.specs.Rules.{origin, first_bad, weights, divisor_fits, count_fits}
use Rattle.kernel.specs.Faults.{Refusal, plain, at_tap}
use Rattle.kernel.specs.Meaning.{Refused, keeps, FirstTold}
use Rattle.kernel.proofs.Neighbours.{broken, neighbours, first_bad-position, keeps-broken}

abbrev refused_by : Bool → Bool → Option ℕ → Bool → Option Refusal
refused_by d n o w = cond (not d) (Some (plain 11)) (cond (not n) (Some (plain 12)) (option_or (option_map at_tap o) (cond w (Some (plain 14)) None)))

both : (d n : Bool) (o : Option ℕ) (w v : Bool) → not w ≡ v →
    (refused_by d n o w ≡ None → (d && (n && (is_none o && v))) ≡ true) × ((d && (n && (is_none o && v))) ≡ true → refused_by d n o w ≡ None)
both d n o w v e = ((λ q. grind arith), λ q. grind arith)

above : (d w : ℕ) → not (ltb d w) ≡ leb w d
above d w = grind arith

pub refused : Refused
refused s = both (divisor_fits s.divisor) (count_fits (length s.taps)) (first_bad origin 0 s.taps) (ltb s.divisor (weights s.taps)) (leb (weights s.taps) s.divisor) (above s.divisor (weights s.taps))

-- a pair of neighbours for each tap
length-neighbours : (ts : List Tap) → length (neighbours ts) ≡ length ts
length-neighbours ts = omega (arith, length-zip (origin ∷ ts) ts)

kept : (ts : List Tap) (i : ℕ) (b : Bool) → i < length ts → broken (get_or (neighbours ts) i (origin, origin)) ≡ b → keeps ts i ≡ not b
kept ts i b l h = keeps-broken ts i l ∙ ap not h

past_all : (m n : ℕ) → cond (ltb m n) (Some m) None ≡ None → n ≤ m
past_all m n e = grind arith

pub first_told : FirstTold
first_told ts = (told, untold)
  where
    told : (i : ℕ) → first_bad origin 0 ts ≡ Some i → (i < length ts) × (keeps ts i ≡ false) × ((j : ℕ) → j < i → keeps ts j ≡ true)
    told i e =
        let p = position-Some broken (neighbours ts) i (origin, origin) (first_bad-position ts ∙ e) in
        let l : i < length ts = omega (arith, p.0, length-neighbours ts) in
        (l, kept ts i true l p.1, λ j m. kept ts j false (omega arith) (p.2 j m))

    untold : first_bad origin 0 ts ≡ None → (i : ℕ) → i < length ts → keeps ts i ≡ true
    untold e i l =
        let past = past_all (position_or_len broken (neighbours ts)) (length (neighbours ts)) (first_bad-position ts ∙ e) in
        kept ts i false l (fails_before_first broken (neighbours ts) i (origin, origin) (omega (arith, length-neighbours ts)))
