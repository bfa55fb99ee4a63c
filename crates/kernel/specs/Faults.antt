-- The refusals of a kernel by number, with the index that 13 tells.
use Rattle.std.specs.Prelude.{ℕ, List, ◌++◌, codes, Some, None, Ok, Err, Option, Result}
use Rattle.std.specs.Fmt.{decimal}
use Rattle.kernel.specs.declared.tap.KernelFault.{KernelFault}
use Rattle.kernel.specs.declared.tap.KernelFault.TheVariants as fault

pub record Refusal : Type 0 where
  pub number : ℕ
  pub index : Option ℕ

abbrev pub plain : ℕ → Refusal
plain n = record { number = n; index = None }

abbrev pub at_tap : ℕ → Refusal
at_tap i = record { number = 13; index = Some i }

-- what each fault stands for
abbrev pub told : KernelFault → Refusal
told fault.Divisor = plain 11
told fault.Count = plain 12
told (fault.Tap i) = at_tap i
told fault.Sum = plain 14

-- the words of each fault
abbrev pub words : KernelFault → List ℕ
words fault.Divisor = codes "the divisor is not 1 to 256"
words fault.Count = codes "there are not 1 to 12 taps"
words (fault.Tap i) = codes "tap " ++ (decimal i ++ codes " breaks reach, order or weight")
words fault.Sum = codes "the weights sum up to more than the divisor"

-- an answer, as its refusal if it is one
abbrev pub answered : Result (Unit {0}) KernelFault → Option Refusal
answered (Ok u) = None
answered (Err e) = Some (told e)
