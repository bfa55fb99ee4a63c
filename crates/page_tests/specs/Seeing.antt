-- A source's answer, in the form of the tables.
use Rattle.std.specs.Prelude.{ℕ, List, Ok, Err, Result}
use Rattle.source.specs.Faults.{Told}
use Rattle.tone.specs.Channels.{channels_of}

-- for tones of n channels: the samples of the tone, or the fault with its number, layer, row and column
abbrev pub seen_of : {T : Type 0} → ℕ → (T → ℕ → ℕ) → Result T Told → Result (List ℕ) Told
seen_of n value (Ok t) = Ok (channels_of n (value t))
seen_of n value (Err f) = Err f
