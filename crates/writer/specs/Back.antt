-- A written page of tones, read again.
use Rattle.std.specs.Prelude.{◌≡◌, ℕ, ◌<◌, ◌≤◌, false, List, Ok, Err, Result}
use Rattle.ink.specs.Inks.{Inks, ink_tone}
use Rattle.netpbm.specs.Headers.{Reading, header}
use Rattle.netpbm.specs.Rasters.{raster_place}
use Rattle.sheet.specs.Meaning.{SheetMeaning}
use Rattle.source.specs.Pages.{Place, tone}
use Rattle.writer.specs.Pages.{black_white}

module _ {T : Type 0} (letter n : ℕ) (value : T → ℕ → ℕ) (made : List ℕ → T) (m : Inks T) (s : SheetMeaning) where
  -- the place has a tone, which is in every channel that of the ink laid there
  pub record LaidTone (p : Place T) (r c : ℕ) : Type 0 where
    pub read : T
    pub there : p ≡ tone read
    pub same : (i : ℕ) → i < n → value read i ≡ value (ink_tone m (s.ink r c)) i

  -- the bytes are read as a page of the sheet's size, and each place as the tone laid
  pub record ReadsBack (bs : List ℕ) : Type 0 where
    pub raster : ℕ
    pub reads : Reading letter bs (Ok (header s.width s.height raster))
    pub tones : (r c : ℕ) → r < s.height → c < s.width → LaidTone (raster_place n made bs raster s.width r c) r c

  -- after a page of tones that has cells was written, the whole buffer reads back
  abbrev pub Back : List ℕ → Result ℕ ℕ → Type 0
  Back bs (Ok k) = black_white n value m s ≡ false → 1 ≤ s.width → 1 ≤ s.height → ReadsBack bs
  Back bs (Err k) = Unit {0}
