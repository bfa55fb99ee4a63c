-- What a kernel means, which refusal a shape meets, and what setting leaves.
use Rattle.std.specs.Prelude.{◌≡◌, ℕ, zero, suc, ◌<◌, Bool, true, false, cond, not, ◌&&◌, List, length, take, Some, None, Option, Result, nat_lt, slice_index_or}
use Rattle.std.specs.Option.{option_or, option_map}
use Rattle.kernel.specs.declared.tap.Tap.{Tap}
use Rattle.kernel.specs.declared.tap.KernelFault.{KernelFault}
use Rattle.kernel.specs.declared.shape.Kernel.{Kernel}
use Rattle.kernel.specs.Rules.{Shape, shape, fits, rises, origin, first_bad, weights, divisor_fits, count_fits, valid}
use Rattle.kernel.specs.Faults.{Refusal, plain, at_tap, answered}

-- the divisor and the taps that a kernel has
abbrev pub meaning : Kernel → Shape
meaning k = shape k.divisor (take k.len k.taps)

-- The first refusal that a shape meets: 11 for its divisor, 12 for the number of its taps, 13 for a tap, 14 for W above D.
abbrev pub refusal : Shape → Option Refusal
refusal s =
    cond (not (divisor_fits s.divisor)) (Some (plain 11))
    (cond (not (count_fits (length s.taps))) (Some (plain 12))
    (option_or (option_map at_tap (first_bad origin 0 s.taps))
    (cond (nat_lt s.divisor (weights s.taps)) (Some (plain 14)) None)))

-- A shape is refused exactly where it breaks a rule.
abbrev pub Refused : Type 0
Refused = (s : Shape) → (refusal s ≡ None → valid s ≡ true) × (valid s ≡ true → refusal s ≡ None)

-- the tap just before index i, and whether tap i keeps its rules
abbrev pub prior : List Tap → ℕ → Tap
prior ts zero = origin
prior ts (suc i) = slice_index_or ts i origin

abbrev pub keeps : List Tap → ℕ → Bool
keeps ts i = fits (slice_index_or ts i origin) && rises (prior ts i) (slice_index_or ts i origin)

-- The index told is that of the first tap that breaks its rules; where none is told, none does.
abbrev pub FirstTold : Type 0
FirstTold =
    (ts : List Tap) →
    ((i : ℕ) → first_bad origin 0 ts ≡ Some i → (i < length ts) × (keeps ts i ≡ false) × ((j : ℕ) → j < i → keeps ts j ≡ true))
    × (first_bad origin 0 ts ≡ None → (i : ℕ) → i < length ts → keeps ts i ≡ true)

-- the kernel after an answer: the one asked for, or the one before
abbrev pub After : Shape → Kernel → Kernel → Option Refusal → Type 0
After s before now None = meaning now ≡ s
After s before now (Some f) = now ≡ before

-- Setting a kernel to a shape answers its refusal, and leaves what that asks for.
pub record Set (s : Shape) (before now : Kernel) (r : Result (Unit {0}) KernelFault) : Type 0 where
  pub answer : answered r ≡ refusal s
  pub leaves : After s before now (answered r)
