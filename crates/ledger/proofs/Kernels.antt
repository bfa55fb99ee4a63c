-- What the laws need of a kernel, drawn from its rules: a tap in the sending row aims ahead, taps reach so many rows down, and W is at most D.
use Rattle.std.proofs.Common.{◌≡◌, ℕ, zero, suc, ◌<◌, ◌≤◌, Bool, true, false, cond, ◌&&◌, List, [], ◌∷◌, length, get_or, pos, ◌≤ℤ◌, Some, refl, arith}
use borrow.Author.Differences.{ints}
use Rattle.std.specs.Option.{is_none}
use Rattle.std.proofs.lemmas.Bool.{and_parts}
use Rattle.kernel.specs.declared.tap.Tap.{Tap}
use Rattle.kernel.specs.Rules.{Shape, rows_down, most_divisor, fits, rises, origin, first_bad, weights, valid}

abbrev pub EachAhead : List Tap → Type 0
EachAhead [] = Unit {0}
EachAhead (t ∷ ts) = (t.down ≡ 0 → pos 1 ≤ℤ t.ahead) × EachAhead ts

-- taps reach at most L rows down
abbrev pub EachReaches : ℕ → List Tap → Type 0
EachReaches L [] = Unit {0}
EachReaches L (t ∷ ts) = (t.down ≤ L) × EachReaches L ts

pub record Sound (K : Shape) : Type 0 where
  pub some_divisor : 1 ≤ K.divisor
  pub small_divisor : K.divisor ≤ most_divisor
  pub at_most : weights K.taps ≤ K.divisor
  pub each_ahead : EachAhead K.taps
  pub each_reaches : EachReaches rows_down K.taps

reach_of : (t : Tap) → fits t ≡ true → (t.down ≤ rows_down) × (t.down ≡ 0 → pos 1 ≤ℤ t.ahead)
reach_of t h = grind (arith, ints)

walked : (before : Tap) (i : ℕ) (ts : List Tap) → is_none (first_bad before i ts) ≡ true → EachAhead ts × EachReaches rows_down ts
walked before i [] h = (tt, tt)
walked before i (t ∷ ts) h = go (fits t && rises before t) refl h (λ q. walked t (suc i) ts q)
  where
    go : (b : Bool) → (fits t && rises before t) ≡ b → is_none (cond b (first_bad t (suc i) ts) (Some i)) ≡ true →
        (is_none (first_bad t (suc i) ts) ≡ true → EachAhead ts × EachReaches rows_down ts) → EachAhead (t ∷ ts) × EachReaches rows_down (t ∷ ts)
    go true e q more =
        let f = reach_of t (and_parts (fits t) (rises before t) e).0 in
        let m = more q in
        ((f.1, m.0), (f.0, m.1))
    go false e q more = cc

pub sound : (K : Shape) → valid K ≡ true → Sound K
sound K h =
    let w = walked origin 0 K.taps (grind arith) in
    record {
      some_divisor = grind arith;
      small_divisor = grind arith;
      at_most = grind arith;
      each_ahead = w.0;
      each_reaches = w.1;
    }

pub ahead_at : (ts : List Tap) (i : ℕ) (t : Tap) → EachAhead ts → i < length ts → (get_or ts i t).down ≡ 0 → pos 1 ≤ℤ (get_or ts i t).ahead
ahead_at [] i t a l = absurd (omega arith)
ahead_at (s ∷ ts) zero t a l = a.0
ahead_at (s ∷ ts) (suc i) t a l = ahead_at ts i t a.1 (omega arith)

pub reach_at : (L : ℕ) (ts : List Tap) (i : ℕ) (t : Tap) → EachReaches L ts → i < length ts → (get_or ts i t).down ≤ L
reach_at L [] i t a l = absurd (omega arith)
reach_at L (s ∷ ts) zero t a l = a.0
reach_at L (s ∷ ts) (suc i) t a l = reach_at L ts i t a.1 (omega arith)
