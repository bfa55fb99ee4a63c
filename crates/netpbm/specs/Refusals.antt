-- The refusals of the page reader, as they are told: a number, and the byte where reading stopped.
use Rattle.std.specs.Prelude.{ℕ, Ok, Err, Result}
use Rattle.netpbm.specs.declared.fault.PageFault.{PageFault}
use Rattle.netpbm.specs.declared.fault.PageFault.TheVariants.{Letters, Field, Size, Maximum}

pub record Refusal : Type 0 where
  pub number : ℕ
  pub byte : ℕ

abbrev pub refusal : ℕ → ℕ → Refusal
refusal n p = record { number = n; byte = p }

abbrev pub told : PageFault → Refusal
told Letters = refusal 15 0
told (Field p) = refusal 16 p
told (Size p) = refusal 17 p
told (Maximum p) = refusal 18 p

-- an answer, with a fault as it is told
abbrev pub judged : {X : Type 0} → Result X PageFault → Result X Refusal
judged (Ok x) = Ok x
judged (Err e) = Err (told e)
