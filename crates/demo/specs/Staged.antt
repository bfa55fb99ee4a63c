-- What the stages show.
use Rattle.std.specs.Prelude.{◌≡◌, ℕ, ◌*◌, true, false, List, Ok, Err, vec_items, Result}
use Rattle.ink.specs.Inks.{Inks}
use Rattle.sheet.specs.Limits.{fits}
use Rattle.source.specs.Layers.{cropped, negated}
use Rattle.source.specs.Pages.{Page}
use Rattle.netpbm.specs.declared.heading.Header.{Header}
use Rattle.netpbm.specs.Headers.{Reading}
use Rattle.netpbm.specs.Rasters.{raster_page}
use Rattle.netpbm.specs.Refusals.{told}
use Rattle.preview.specs.Views.{Shows}
use Rattle.demo.specs.Nearest.{PrintedPage}
use Rattle.demo.specs.declared.parts.Stages.{Stages}
use Rattle.demo.specs.declared.parts.Stopped.{Stopped}
use Rattle.demo.specs.declared.parts.Stopped.TheVariants.{NoPage, NoSheet, Unwritten, NoMemory}
use Rattle.source.specs.declared.crop.Window.{Window}

module _ {T : Type 0} (letter n : ℕ) (value : T → ℕ → ℕ) (made : List ℕ → T) (m : Inks T) where
  abbrev pub page_at : List ℕ → Header → Page T
  page_at bs h = raster_page n made bs h.raster h.width h.height

  abbrev pub window_of : Window → Page T → Page T
  window_of w p = cropped w.top w.left w.height w.width p

  -- the three views are those of the page that the bytes read as, of its window, and of the window's negative, and the
  -- negative is printed
  pub record Seen (bs : List ℕ) (w : Window) (s : Stages) : Type 0 where
    pub header : Header
    pub reads : Reading letter bs (Ok header)
    pub page : Shows n value (page_at bs header) s.page
    pub window : Shows n value (window_of w (page_at bs header)) s.window
    pub negative : Shows n value (negated n value made true (window_of w (page_at bs header))) s.negative
    pub printed : PrintedPage n value m letter (negated n value made true (window_of w (page_at bs header))) (vec_items s.printed)

  -- a refusal is the reader's; there may be no sheet of the window's size, and memory may run out
  abbrev pub Staged : List ℕ → Window → Result Stages Stopped → Type 0
  Staged bs w (Ok s) = Seen bs w s
  Staged bs w (Err (NoPage f)) = Reading letter bs (Err (told f))
  Staged bs w (Err NoSheet) = (h : Header) × Reading letter bs (Ok h)
      × (let p = window_of w (page_at bs h) in fits p.width p.height (p.width * p.height) (p.width * p.height) ≡ false)
  Staged bs w (Err (Unwritten f)) = Unit {0}
  Staged bs w (Err NoMemory) = Unit {0}
