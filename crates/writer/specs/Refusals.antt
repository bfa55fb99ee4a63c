-- The refusal of the page writer, by its number.
use Rattle.std.specs.Prelude.{ℕ, Ok, Err, Result}
use Rattle.writer.specs.declared.fault.WriteFault.{WriteFault}
use Rattle.writer.specs.declared.fault.WriteFault.TheVariants.{Short}

abbrev pub fault_number : WriteFault → ℕ
fault_number Short = 19

-- an answer, with the refusal by its number
abbrev pub numbered : {X : Type 0} → Result X WriteFault → Result X ℕ
numbered (Ok x) = Ok x
numbered (Err f) = Err (fault_number f)
