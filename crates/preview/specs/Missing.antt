-- The first missing place of a page in reading order.
use Rattle.std.specs.Prelude.{ℕ, zero, suc, Some, None, Option}
use Rattle.source.specs.declared.fault.Fault.{Fault}
use Rattle.source.specs.Faults.{Told, told}
use Rattle.source.specs.Pages.{Page, Place, tone, missing}

-- the first that there is among f 0, .., f (n - 1)
abbrev pub first : {X : Type 0} → (ℕ → Option X) → ℕ → Option X
first f zero = None
first f (suc n) = elim (first f n) [ Some x ↦ Some x | None ↦ f n ]

-- the fault of a place that is missing
abbrev pub lack : {T : Type 0} → Place T → Option Told
lack (tone t) = None
lack (missing s) = Some (record { number = 8; spot = s })

abbrev pub missing_of_row : {T : Type 0} → Page T → ℕ → Option Told
missing_of_row p r = first (λ c. lack (p.place r c)) p.width

abbrev pub missing_of_page : {T : Type 0} → Page T → Option Told
missing_of_page p = first (missing_of_row p) p.height

-- a fault, if there is one, as it is told
abbrev pub heard : Option Fault → Option Told
heard (Some f) = Some (told f)
heard None = None
