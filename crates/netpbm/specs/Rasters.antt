-- The samples of a page: row by row, n of them for each place.
use Rattle.std.specs.Prelude.{ℕ, ◌+◌, ◌*◌, cond, List, length, nat_le, slice_index}
use Rattle.source.specs.Faults.{spot_of}
use Rattle.source.specs.Pages.{Page, Place, tone, missing}
use Rattle.tone.specs.Channels.{channels_of}

-- where the samples of row r and column c begin, in a page of width w whose samples begin at o
abbrev pub sample_at : (n o w r c : ℕ) → ℕ
sample_at n o w r c = o + (r * w + c) * n

module _ {T : Type 0} (n : ℕ) (made : List ℕ → T) where
  -- the tone of the place, which is missing where one of its bytes is
  abbrev pub raster_place : List ℕ → (o w r c : ℕ) → Place T
  raster_place bs o w r c =
      cond (nat_le (sample_at n o w r c + n) (length bs))
      (tone (made (channels_of n (λ i. slice_index bs (sample_at n o w r c + i)))))
      (missing (spot_of 0 r c))

  -- the page of w by h places whose samples begin at o
  abbrev pub raster_page : List ℕ → (o w h : ℕ) → Page T
  raster_page bs o w h = record { width = w; height = h; layer = 0; place = raster_place bs o w }
