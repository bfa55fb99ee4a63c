-- Why there is nothing to show, as it is printed.
use Rattle.std.specs.Prelude.{ℕ, List, ◌++◌, codes, decimal}
use Rattle.netpbm.specs.Refusals.{told}
use Rattle.demo.specs.declared.parts.Stopped.{Stopped}
use Rattle.demo.specs.declared.parts.Stopped.TheVariants.{NoPage, NoSheet, Unwritten, NoMemory}

abbrev pub stopped_text : Stopped → List ℕ
stopped_text (NoPage f) = codes "no page: fault " ++ (decimal (told f).number ++ codes " at byte " ++ decimal (told f).byte)
stopped_text NoSheet = codes "no sheet of that size"
stopped_text (Unwritten f) = codes "not written: " ++ codes "refusal 19: the buffer is too short for the page"
stopped_text NoMemory = codes "no memory"
