-- The chart: a page whose samples rise from left to right, from 0 to 255.
use Rattle.std.specs.Prelude.{ℕ, ◌-◌, ◌*◌, ◌/◌, cond, List, nat_le}
use Rattle.tone.specs.Channels.{channels_of}
use Rattle.source.specs.Pages.{Page, tone}

-- the sample of column c in a chart of width w
abbrev pub chart_sample : ℕ → ℕ → ℕ
chart_sample w c = cond (nat_le w 1) 0 (255 * c / (w - 1))

-- every channel of a kind with n channels has the column's sample
abbrev pub chart_page : {T : Type 0} → ℕ → (List ℕ → T) → (w h : ℕ) → Page T
chart_page n made w h = record
    { width = w; height = h; layer = 0; place = λ r c. tone (made (channels_of n (λ i. chart_sample w c))) }
