-- Limited values.
use Rattle.std.proofs.Common.{◌≡◌, ℕ, suc, ◌+◌, ◌/◌, ◌<◌, List, map, length, get_or, take, ℤ, pos, negsuc, ◌≤ℤ◌, sym, ap, ◌∙◌, arith}
use Rattle.std.proofs.lemmas.List.{get_or-map, get_or-take, length-take}
use Rattle.std.proofs.lemmas.Int.{ints}
use Rattle.ink.specs.LevelRules.{cut_to_byte, level}
use Rattle.ink.specs.Values.{Limited, highest, limited, lowest, values}

-- the value of a channel
pub values_at : (count : ℕ) (ws : List ℤ) (i : ℕ) → i < count → i < length ws
    → get_or (values count ws) i (pos 0) ≡ limited (get_or ws i (pos 0))
values_at count ws i p q =
    get_or-map limited (take count ws) i (pos 0) (pos 0) (rw (length-take count ws) (omega arith))
    ∙ ap limited (get_or-take count ws i (pos 0) p)

pub limited_bounds : (v : ℤ) → (lowest ≤ℤ limited v) × (limited v ≤ℤ highest)
limited_bounds v = (grind (arith, ints), grind (arith, ints))

-- limits beyond 0..255 do not change the value cut to a byte
cut_limited : (v : ℤ) → cut_to_byte (limited v) ≡ cut_to_byte v
cut_limited (pos x) = grind arith
cut_limited (negsuc x) = grind arith

-- the level of a channel's value
pub level_at : (count gap : ℕ) (ws : List ℤ) (i : ℕ) → i < count → i < length ws
    → level gap (get_or ws i (pos 0)) ≡ level gap (get_or (values count ws) i (pos 0))
level_at count gap ws i p q =
    sym (ap (λ v. level gap v) (values_at count ws i p q)
    ∙ ap (λ x. (x + gap / 2) / gap) (cut_limited (get_or ws i (pos 0))))

-- three values limited
pub all_limited : (ws : List ℤ) → length ws ≡ 3 → Limited (map limited ws)
all_limited ws l i p =
    rw (get_or-map limited ws i (pos 0) (pos 0) (omega arith)) (limited_bounds (get_or ws i (pos 0)))

pub same_values : (count : ℕ) (ws : List ℤ) (i : ℕ) → i < count → i < length ws
    → get_or (map limited ws) i (pos 0) ≡ get_or (values count ws) i (pos 0)
same_values count ws i p q = get_or-map limited ws i (pos 0) (pos 0) q ∙ sym (values_at count ws i p q)

pub level_mapped : (gap : ℕ) (ws : List ℤ) (i : ℕ) → i < length ws
    → level gap (get_or ws i (pos 0)) ≡ level gap (get_or (map limited ws) i (pos 0))
level_mapped gap ws i q =
    level_at (suc i) gap ws i (omega arith) q ∙ sym (ap (λ v. level gap v) (same_values (suc i) ws i (omega arith) q))
