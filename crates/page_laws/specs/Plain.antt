-- The plainest header, as page writers make it, and what it is read as.
use Rattle.std.specs.Prelude.{◌≡◌, ℕ, ◌<◌, ◌≤◌, List, ◌++◌, length, Ok}
use Rattle.netpbm.specs.Headers.{Reading, header}
use Rattle.netpbm.specs.Plain.{plain_header}
use Rattle.netpbm.specs.Rasters.{raster_place}

-- The plainest header of any size from 1 to 65,535, followed by any bytes, is read as that size, and its samples are
-- exactly those bytes: each place shows what it would show if the bytes stood alone, tone or missing.
abbrev pub PlainPage : {T : Type 0} → (letter n : ℕ) → (List ℕ → T) → Type 0
PlainPage letter n made = (w h : ℕ) (samples : List ℕ) → 1 ≤ w → w ≤ 65535 → 1 ≤ h → h ≤ 65535 →
    Reading letter (plain_header letter w h ++ samples) (Ok (header w h (length (plain_header letter w h))))
    × ((r c : ℕ) → r < h → c < w →
    raster_place n made (plain_header letter w h ++ samples) (length (plain_header letter w h)) w r c
    ≡ raster_place n made samples 0 w r c)
