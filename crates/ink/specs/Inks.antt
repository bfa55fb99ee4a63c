-- What an ink set means.
use Rattle.std.specs.Prelude.{◌≡◌, ℕ, ◌+◌, ◌<◌, ◌≤◌, cond, List, length, ℤ, pos, ◌+ℤ◌, neg_ℤ, ◌≤ℤ◌, Some, Option, nat_lt, slice_index_or}

-- channel i of u lies in -e..255 + e
abbrev pub Around : ℕ → List ℤ → ℕ → Type 0
Around e u i = (neg_ℤ (pos e) ≤ℤ slice_index_or u i (pos 0)) × (slice_index_or u i (pos 0) ≤ℤ pos (255 + e))

-- channel i of u is within e of y
abbrev pub Within : ℕ → List ℤ → ℕ → ℕ → Type 0
Within e u i y = (pos y ≤ℤ (slice_index_or u i (pos 0) +ℤ pos e)) × (slice_index_or u i (pos 0) ≤ℤ pos (y + e))

-- A set of inks whose tones are of the kind T.
pub record Inks (T : Type 0) : Type 0 where
  -- the channels of the kind, and the value of a tone's channel
  pub channels : ℕ
  pub value : T → ℕ → ℕ
  -- inks are numbered from 0 up to this
  pub number : ℕ
  -- the tone of each number below that
  pub tone : ℕ → T
  -- the number chosen for the values of the channels
  pub choice : List ℤ → ℕ
  -- a bound for the error of a choice, if the set has one
  pub spread : Option ℕ
  pub some : 1 ≤ number
  pub few : number ≤ 256
  pub below : (u : List ℤ) → choice u < number
  pub bounded : (e : ℕ) → spread ≡ Some e → e ≤ 255
  -- the law of the spread: values that lie in -e..255 + e get an ink within e of them
  pub close : (u : List ℤ) (e : ℕ) → length u ≡ channels → spread ≡ Some e
      → ((i : ℕ) → i < channels → Around e u i)
      → (i : ℕ) → i < channels → Within e u i (value (tone (choice u)) i)

-- the set speaks of a kind of tone that has `count` channels with the values `value`
abbrev pub OfKind : {T : Type 0} → Inks T → ℕ → (T → ℕ → ℕ) → Type 0
OfKind m count value = (m.channels ≡ count) × (m.value ≡ value)

-- the tone of any number: from the number of inks up, it counts as ink 0
abbrev pub ink_tone : {T : Type 0} → Inks T → ℕ → T
ink_tone m k = cond (nat_lt k m.number) (m.tone k) (m.tone 0)
