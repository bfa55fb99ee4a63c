-- What reading comes to, in the form of the tables.
use Rattle.std.specs.Prelude.{ℕ, List, Ok, Err, Result}
use Rattle.netpbm.specs.Headers.{Reading, header}
use Rattle.netpbm.specs.Refusals.{told}
use Rattle.netpbm.specs.declared.fault.PageFault.{PageFault}

-- the bytes read as a page of this size, whose samples begin somewhere; or they are refused so
abbrev pub Judged : ℕ → List ℕ → Result (ℕ × ℕ) PageFault → Type 0
Judged letter bs (Ok (w, h)) = (o : ℕ) × Reading letter bs (Ok (header w h o))
Judged letter bs (Err e) = Reading letter bs (Err (told e))
