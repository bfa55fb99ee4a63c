-- Distances between whole numbers, and their squares.
use Rattle.std.proofs.Common.{◌≡◌, ℕ, suc, ◌+◌, ◌-◌, ◌<◌, ℤ, pos, negsuc, ◌-ℤ◌, nat_abs, arith}
use Rattle.std.proofs.lemmas.Nat.{mul-lt}
use Rattle.std.proofs.lemmas.Int.{ints}
use Rattle.ink.specs.Nearness.{squared}

pub abs_pos : (x y : ℕ) → nat_abs (pos x -ℤ pos y) ≡ (x - y) + (y - x)
abs_pos x y = grind (arith, ints)

pub abs_neg : (x y : ℕ) → nat_abs (negsuc x -ℤ pos y) ≡ suc x + y
abs_neg x y = grind (arith, ints)

pub squared_lt : (a b : ℤ) → nat_abs a < nat_abs b → squared a < squared b
squared_lt a b p = mul-lt (nat_abs a) (nat_abs a) (nat_abs b) (nat_abs b) p p
