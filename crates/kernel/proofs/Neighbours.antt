-- The first bad tap is found among the taps, each beside the one before it.
use Rattle.std.proofs.Common.{◌≡◌, ℕ, zero, suc, ◌<◌, Bool, true, false, cond, not, ◌&&◌, List, [], ◌∷◌, length, get_or, Some, Option, sym, refl, ◌∙◌, add-one, arith}
use Rattle.std.specs.List.{position, position_from, zip}
use Rattle.std.proofs.Math.Bool.{not-not}
use Rattle.std.proofs.lemmas.Iterator.Adapters.{position_from-zero}
use Rattle.std.proofs.lemmas.Slice.Zip.{get_or-zip}
use Rattle.kernel.specs.declared.tap.Tap.{Tap}
use Rattle.kernel.specs.Rules.{fits, rises, origin, first_bad}
use Rattle.kernel.specs.Meaning.{keeps}

-- whether the later of two neighbours breaks a rule
abbrev pub broken : Tap × Tap → Bool
broken s = not (fits s.1 && rises s.0 s.1)

-- each tap beside the one before it
abbrev pub neighbours : List Tap → List (Tap × Tap)
neighbours ts = zip (origin ∷ ts) ts

turn : (b : Bool) (i : ℕ) (here later : Option ℕ) → here ≡ later → cond (not b) (Some i) here ≡ cond b later (Some i)
turn true i here later e = e
turn false i here later e = refl

from : (before : Tap) (i : ℕ) (ts : List Tap) → position_from broken i (zip (before ∷ ts) ts) ≡ first_bad before i ts
from before i [] = refl
from before i (t ∷ ts) = turn (fits t && rises before t) i _ _ (rw add-one (from t (suc i) ts))

pub first_bad-position : (ts : List Tap) → position broken (neighbours ts) ≡ first_bad origin 0 ts
first_bad-position ts = position_from-zero broken (neighbours ts) ∙ from origin 0 ts

pub keeps-broken : (ts : List Tap) (i : ℕ) → i < length ts → keeps ts i ≡ not (broken (get_or (neighbours ts) i (origin, origin)))
keeps-broken ts zero l = rw (get_or-zip (origin ∷ ts) ts 0 (origin, origin) (omega arith) l) (sym (not-not (keeps ts 0)))
keeps-broken ts (suc i) l = rw (get_or-zip (origin ∷ ts) ts (suc i) (origin, origin) (omega arith) l) (sym (not-not (keeps ts (suc i))))
