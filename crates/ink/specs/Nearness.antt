-- Which ink is the nearest: the one definition for every set.
use Rattle.std.specs.Prelude.{ℕ, zero, suc, ◌+◌, ◌*◌, ◌<◌, ◌≤◌, List, ℤ, pos, ◌-ℤ◌, slice_index_or, unsigned_abs}
use Rattle.ink.specs.Inks.{Inks}

-- how much a channel counts
abbrev pub channel_weight : ℕ → ℕ
channel_weight i = 1

abbrev pub squared : ℤ → ℕ
squared z = unsigned_abs z * unsigned_abs z

-- the distance of a tone from the values u: the weighted sum of squared differences, over the channels below `count`
abbrev pub distance : {T : Type 0} → ℕ → (T → ℕ → ℕ) → List ℤ → T → ℕ
distance zero value u t = 0
distance (suc i) value u t = distance i value u t + channel_weight i * squared (slice_index_or u i (pos 0) -ℤ pos (value t i))

-- how far an ink of a set is from the values u
abbrev pub ink_distance : {T : Type 0} → Inks T → List ℤ → ℕ → ℕ
ink_distance m u k = distance m.channels m.value u (m.tone k)

-- k is the nearest ink: no other is nearer, and none of lower number is as near
pub record Nearest {T : Type 0} (m : Inks T) (u : List ℤ) (k : ℕ) : Type 0 where
  pub one_of : k < m.number
  pub no_nearer : (j : ℕ) → j < m.number → ink_distance m u k ≤ ink_distance m u j
  pub first : (j : ℕ) → j < k → ink_distance m u k < ink_distance m u j
