-- What opening a page file comes to.
use Rattle.std.specs.Prelude.{◌≡◌, ℕ, ◌⊎◌, List, Ok, Err, Result, ◌≢◌}
use Rattle.netpbm.specs.Headers.{Reading}
use Rattle.netpbm.specs.Refusals.{refusal, told}
use Rattle.netpbm.specs.declared.fault.PageFault.{PageFault}
use Rattle.samples.specs.declared.open.AnyPage.{AnyPage}
use Rattle.samples.specs.declared.open.AnyPage.TheVariants.{Grey, Colour}

-- A grey page (its letter is 5, byte 53) or a colour page (6, byte 54), on the very bytes of the file; or a refusal
-- of a field as the file's own kind reads it, or of both kinds for its letters.
abbrev pub OpenedAs : List ℕ → Result AnyPage PageFault → Type 0
OpenedAs bs (Ok (Grey s)) = Reading 53 bs (Ok s.header) × (s.bytes.now ≡ bs)
OpenedAs bs (Ok (Colour s)) = Reading 54 bs (Ok s.header) × (s.bytes.now ≡ bs)
OpenedAs bs (Err e) =
    (((told e).number ≢ 15) × Reading 53 bs (Err (told e)))
    ⊎ (Reading 53 bs (Err (refusal 15 0)) × Reading 54 bs (Err (told e)))
