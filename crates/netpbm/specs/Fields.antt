-- A field of a header: white space, then a number.
use Rattle.std.specs.Prelude.{◌≡◌, ℕ, ◌+◌, ◌-◌, ◌*◌, ◌<◌, ◌≤◌, Bool, ◌&&◌, ◌||◌, List, drop, fold, ◌==◌, nat_le}
use Rattle.std.specs.List.{between, prefix_len}

-- space, tab, CR, LF
abbrev pub white : ℕ → Bool
white b = b == 32 || (b == 9 || (b == 13 || b == 10))

abbrev pub digit : ℕ → Bool
digit b = nat_le 48 b && nat_le b 57

-- where the run of white bytes, or of digits, that starts at p ends
abbrev pub after_white : List ℕ → ℕ → ℕ
after_white bs p = p + prefix_len white (drop p bs)

abbrev pub after_digits : List ℕ → ℕ → ℕ
after_digits bs p = p + prefix_len digit (drop p bs)

-- the number that decimal digits write
abbrev pub decimal_value : List ℕ → ℕ
decimal_value ds = fold (λ n c. n * 10 + (c - 48)) 0 ds

-- one to five digits stand from s to q, no digit follows, and they write v
pub record Number (bs : List ℕ) (s v q : ℕ) : Type 0 where
  pub some : s < q
  pub few : q ≤ s + 5
  pub whole : q ≡ after_digits bs s
  pub reads : v ≡ decimal_value (between s q bs)

-- the bytes from p to q are a field of value v: white bytes, at least one, then a number
pub record Field (bs : List ℕ) (p v q : ℕ) : Type 0 where
  pub spaced : p < after_white bs p
  pub reads : Number bs (after_white bs p) v q

-- no number starts at p; no field starts at p
abbrev pub NoNumber : List ℕ → ℕ → Type 0
NoNumber bs p = (v q : ℕ) → Number bs p v q → ⊥

abbrev pub NoField : List ℕ → ℕ → Type 0
NoField bs p = (v q : ℕ) → Field bs p v q → ⊥
