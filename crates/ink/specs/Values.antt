-- The values that an ink is chosen for.
use Rattle.std.specs.Prelude.{ℕ, ◌<◌, cond, List, map, take, ℤ, pos, negsuc, ◌≤ℤ◌, int_lt, slice_index_or}

-- each channel's value is limited to -255..510
abbrev pub lowest : ℤ
lowest = negsuc 254

abbrev pub highest : ℤ
highest = pos 510

abbrev pub limited : ℤ → ℤ
limited v = cond (int_lt v lowest) lowest (cond (int_lt highest v) highest v)

-- the values of the channels, of which there are `count`, each limited
abbrev pub values : ℕ → List ℤ → List ℤ
values count wanted = map limited (take count wanted)

-- each value lies within the limits
abbrev pub Limited : List ℤ → Type 0
Limited u = (i : ℕ) → i < 3 → (lowest ≤ℤ slice_index_or u i (pos 0)) × (slice_index_or u i (pos 0) ≤ℤ highest)
