-- The sum of squared differences, one channel at a time.
use Rattle.std.proofs.Common.{◌≡◌, ℕ, zero, suc, ◌+◌, ◌*◌, ◌<◌, ◌≤◌, List, get_or, ℤ, pos, ◌-ℤ◌, nat_abs, ◌≤ℤ◌, add-one, arith}
use Rattle.std.proofs.lemmas.Nat.{mul-le}
use Rattle.std.proofs.lemmas.Int.{ints}
use Rattle.ink.specs.Nearness.{channel_weight, distance, squared}
use Rattle.ink.specs.Values.{Limited, highest, lowest}

pub distance_more : {T : Type 0} (i : ℕ) (value : T → ℕ → ℕ) (u : List ℤ) (t : T) (sum w d : ℕ)
    → sum ≡ distance i value u t → w ≡ channel_weight i → d ≡ nat_abs (get_or u i (pos 0) -ℤ pos (value t i))
    → sum + w * (d * d) ≡ distance (i + 1) value u t
distance_more i value u t sum w d p q r = rw (p, q, r, add-one i)

difference_small : (v : ℤ) (y : ℕ) → lowest ≤ℤ v → v ≤ℤ highest → y ≤ 255 → nat_abs (v -ℤ pos y) ≤ 765
difference_small v y p q r = grind (arith, ints)

pub distance_small : {T : Type 0} (i : ℕ) (value : T → ℕ → ℕ) (u : List ℤ) (t : T) → i ≤ 3 → Limited u → ((j : ℕ) → j < i → value t j ≤ 255)
    → distance i value u t ≤ i * 1000000
distance_small zero value u t p limits bytes = omega arith
distance_small (suc i) value u t p limits bytes =
    let limit = limits i (omega arith) in
    let d : nat_abs (get_or u i (pos 0) -ℤ pos (value t i)) ≤ 765 = difference_small (get_or u i (pos 0)) (value t i) limit.0 limit.1 (bytes i (omega arith)) in
    let s : squared (get_or u i (pos 0) -ℤ pos (value t i)) ≤ 765 * 765 = mul-le _ _ 765 765 d d in
    omega (arith, distance_small i value u t (omega arith) limits (λ j q. bytes j (omega arith)))
