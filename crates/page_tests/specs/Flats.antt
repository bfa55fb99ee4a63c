-- A page that has one tone at every place.
use Rattle.std.specs.Prelude.{ℕ}
use Rattle.source.specs.Pages.{Page, tone}

abbrev pub flat_page : {T : Type 0} → T → (w h l : ℕ) → Page T
flat_page t w h l = record { width = w; height = h; layer = l; place = λ r c. tone t }
