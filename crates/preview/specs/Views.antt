-- What a view says of a page.
use Rattle.std.specs.Prelude.{◌≡◌, ℕ, string_bytes}
use Rattle.source.specs.Pages.{Page}
use Rattle.preview.specs.declared.view.View.{View}
use Rattle.preview.specs.Marks.{picture_of}
use Rattle.preview.specs.Missing.{missing_of_page, heard}

-- the view is that of the page, for tones of n channels
pub record Shows {T : Type 0} (n : ℕ) (value : T → ℕ → ℕ) (p : Page T) (v : View) : Type 0 where
  pub width : v.width ≡ p.width
  pub height : v.height ≡ p.height
  pub picture : string_bytes v.picture ≡ picture_of n value p
  pub lacks : heard v.missing ≡ missing_of_page p
