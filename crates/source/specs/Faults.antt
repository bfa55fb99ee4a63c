-- The faults of a source, as they are told: a number and a spot.
use Rattle.std.specs.Prelude.{ℕ, Ok, Err, Result}
use Rattle.source.specs.declared.fault.Spot.{Spot}
use Rattle.source.specs.declared.fault.Fault.{Fault}
use Rattle.source.specs.declared.fault.Fault.TheVariants.{Outside, Missing}

-- a fault's number, and the layer that raised it with the row and column in that layer's own page
pub record Told : Type 0 where
  pub number : ℕ
  pub spot : Spot

abbrev pub spot_of : ℕ → ℕ → ℕ → Spot
spot_of l r c = record { layer = l; row = r; column = c }

-- 7 is outside the page, 8 a missing place
abbrev pub told : Fault → Told
told (Outside s) = record { number = 7; spot = s }
told (Missing s) = record { number = 8; spot = s }

-- what a source said, with a fault as it is told
abbrev pub said : {T : Type 0} → Result T Fault → Result T Told
said (Ok t) = Ok t
said (Err f) = Err (told f)
