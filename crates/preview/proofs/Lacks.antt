-- What a source answers at a place of its page tells whether the place is missing.
use Rattle.std.proofs.Common.{◌≡◌, ℕ, ◌<◌, Some, None, Ok, Err, Option, Result, refl, arith}
use Rattle.std.proofs.lemmas.Bool.{lt-ltb}
use Rattle.source.specs.declared.fault.Fault.{Fault}
use Rattle.source.specs.Faults.{Told, told, said}
use Rattle.source.specs.Pages.{Page, Place, tone, missing, answer, read_place}
use Rattle.preview.specs.Missing.{lack}

-- the fault in an answer
abbrev pub refusal_of : {T : Type 0} → Result T Fault → Option Told
refusal_of (Ok t) = None
refusal_of (Err f) = Some (told f)

place_said : {T : Type 0} (l : Place T) (x : Result T Fault) → said x ≡ read_place l → lack l ≡ refusal_of x
place_said (tone t) (Ok u) e = refl
place_said (tone t) (Err f) e = let z : ◌≡◌ {A = ℕ} 0 1 = cc in absurd (omega arith)
place_said (missing s) (Ok u) e = let z : ◌≡◌ {A = ℕ} 0 1 = cc in absurd (omega arith)
place_said (missing s) (Err f) e = cc

pub lack_said : {T : Type 0} (p : Page T) (r c : ℕ) (x : Result T Fault) → r < p.height → c < p.width → said x ≡ answer p r c
    → lack (p.place r c) ≡ refusal_of x
lack_said p r c x high wide e = place_said (p.place r c) x (rw (lt-ltb r p.height high, lt-ltb c p.width wide) at e)
