-- What a source means: a page.
use Rattle.std.specs.Prelude.{ℕ, Bool, cond, ◌&&◌, Ok, Err, Result, nat_lt}
use Rattle.source.specs.declared.fault.Spot.{Spot}
use Rattle.source.specs.Faults.{Told, spot_of}

-- What stands at a place: a tone, or nothing. A missing place has the spot of the layer that lacks it.
pub data Place (T : Type 0) : Type 0 where
  tone : T → Place T
  missing : Spot → Place T

-- A page: its size, the number of the layer that shows it, and what stands at each row and column.
-- Width, height and layer are 0 to 65,535, since a source tells them as 16-bit numbers; places outside the size stand
-- for nothing.
pub record Page (T : Type 0) : Type 0 where
  pub width : ℕ
  pub height : ℕ
  pub layer : ℕ
  pub place : ℕ → ℕ → Place T

abbrev pub inside : {T : Type 0} → Page T → ℕ → ℕ → Bool
inside p r c = nat_lt r p.height && nat_lt c p.width

-- a place of the page: its tone, or 8 with the spot that lacks it
abbrev pub read_place : {T : Type 0} → Place T → Result T Told
read_place (tone t) = Ok t
read_place (missing s) = Err (record { number = 8; spot = s })

-- the answer to a question for any row and column: 7 outside the page, with the place as it was asked
abbrev pub answer : {T : Type 0} → Page T → ℕ → ℕ → Result T Told
answer p r c = cond (inside p r c) (read_place (p.place r c)) (Err (record { number = 7; spot = spot_of p.layer r c }))
