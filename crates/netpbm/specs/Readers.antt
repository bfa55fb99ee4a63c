-- What the reader answers, and the page that it shows.
use Rattle.std.specs.Prelude.{◌≡◌, ℕ, List, Ok, Err, Result}
use Rattle.source.specs.Pages.{Page}
use Rattle.netpbm.specs.declared.fault.PageFault.{PageFault}
use Rattle.netpbm.specs.declared.heading.Header.{Header}
use Rattle.netpbm.specs.declared.page.Reader.{Reader}
use Rattle.netpbm.specs.Rasters.{raster_page}
use Rattle.netpbm.specs.Refusals.{Refusal, told}

-- the page of a reader for tones of n channels
abbrev pub reader_page : {T : Type 0} → ℕ → (List ℕ → T) → Reader T → Page T
reader_page n made s = raster_page n made s.bytes.now s.header.raster s.header.width s.header.height

-- what reading came to: the header, or the refusal as it is told
abbrev pub came_to : {T : Type 0} → Result (Reader T) PageFault → Result Header Refusal
came_to (Ok s) = Ok s.header
came_to (Err e) = Err (told e)

-- a reader stands on the very bytes that it was given
abbrev pub StandsOn : {T : Type 0} → List ℕ → Result (Reader T) PageFault → Type 0
StandsOn bs (Ok s) = s.bytes.now ≡ bs
StandsOn bs (Err e) = Unit {0}
