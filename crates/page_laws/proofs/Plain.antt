-- The plainest header is read, and the samples are the bytes after it.
use Rattle.std.proofs.Common.{◌≡◌, ℕ, ◌+◌, ◌≤◌, leb, List, [], ◌∷◌, ◌++◌, length, get_or, Ok, codes, decimal, sym, refl, ap, ◌∙◌, ⊎_elim, append_assoc, arith}
use Rattle.std.proofs.lemmas.Bool.{cases_lt, le-leb, lt-leb}
use Rattle.std.proofs.lemmas.List.{get_or_at, length-append, get_or-append-add}
use Rattle.tone.specs.Channels.{channels_of}
use Rattle.netpbm.specs.Fields.{Field}
use Rattle.netpbm.specs.Headers.{Reading, page, header}
use Rattle.netpbm.specs.Rasters.{raster_place, sample_at}
use Rattle.netpbm.specs.Plain.{plain_header}
use Rattle.page_laws.specs.Plain.{PlainPage}
use Rattle.page_laws.proofs.Decimals.{field_at, decimal_255}

module _ (letter w h : ℕ) (samples : List ℕ) (w1 : 1 ≤ w) (w2 : w ≤ 65535) (h1 : 1 ≤ h) (h2 : h ≤ 65535) where
  abbrev bs : List ℕ
  bs = plain_header letter w h ++ samples

  -- the bytes before the height, before the maximum, and before the white byte that ends the header
  abbrev to_height : List ℕ
  to_height = (80 ∷ letter ∷ codes "\n") ++ decimal w

  abbrev to_maximum : List ℕ
  to_maximum = to_height ++ codes " " ++ decimal h

  abbrev to_end : List ℕ
  to_end = to_maximum ++ codes "\n255"

  width : Field bs 2 w (2 + 1 + length (decimal w))
  width = field_at bs (80 ∷ letter ∷ []) 10 w 32 (decimal h ++ (codes "\n255\n" ++ samples)) (simp append_assoc) refl (omega arith) refl

  height : Field bs (length to_height) h (length to_height + 1 + length (decimal h))
  height = field_at bs to_height 32 h 10 (codes "255\n" ++ samples) (simp append_assoc) refl (omega arith) refl

  whole : bs ≡ to_maximum ++ (10 ∷ (codes "255" ++ (10 ∷ samples)))
  whole = simp append_assoc

  maximum : Field bs (length to_maximum) 255 (length to_maximum + 1 + length (decimal 255))
  maximum = field_at bs to_maximum 10 255 10 samples (whole ∙ ap (λ t. to_maximum ++ (10 ∷ (t ++ (10 ∷ samples)))) (sym decimal_255)) refl (omega arith) refl

  height_at : length to_height ≡ 2 + 1 + length (decimal w)
  height_at = length-append (80 ∷ letter ∷ codes "\n") (decimal w)

  maximum_at : length to_maximum ≡ length to_height + 1 + length (decimal h)
  maximum_at = simp length-append

  end_at : length to_end ≡ length to_maximum + 1 + length (decimal 255)
  end_at = length-append to_maximum (codes "\n255") ∙ omega (arith, ap length decimal_255)

  ended : bs ≡ to_end ++ (10 ∷ samples)
  ended = simp append_assoc

  last_byte : get_or bs (length to_maximum + 1 + length (decimal 255)) 0 ≡ 10
  last_byte = ap (λ t. get_or t (length to_maximum + 1 + length (decimal 255)) 0) ended ∙ get_or_at to_end 10 samples 0 _ end_at

  raster_at : length (plain_header letter w h) ≡ length to_maximum + 1 + length (decimal 255) + 1
  raster_at = length-append to_maximum (codes "\n255\n") ∙ omega (arith, ap length decimal_255)

  long : length bs ≡ length (plain_header letter w h) + length samples
  long = length-append (plain_header letter w h) samples

  pub plain_reads : Reading letter bs (Ok (header w h (length (plain_header letter w h))))
  plain_reads = page {p = length to_height} {q = length to_maximum}
      (record { both = omega (arith, long, raster_at, maximum_at, height_at); first = refl; second = refl })
      (record { field = rw height_at width; least = w1; most = w2 })
      (record { field = rw maximum_at height; least = h1; most = h2 })
      (record { end = length to_maximum + 1 + length (decimal 255); last = record { field = maximum; within = omega (arith, long, raster_at); ended = rw last_byte refl }; after = raster_at })

channels_same : (n : ℕ) (f g : ℕ → ℕ) → ((i : ℕ) → f i ≡ g i) → channels_of n f ≡ channels_of n g
channels_same n f g e = let a = e 0 in let b = e 1 in let c = e 2 in cc

-- bytes before the samples shift their place
module _ {T : Type 0} (n : ℕ) (made : List ℕ → T) (pre samples : List ℕ) (w r c : ℕ) where
  fits_same : leb (sample_at n (length pre) w r c + n) (length (pre ++ samples)) ≡ leb (sample_at n 0 w r c + n) (length samples)
  fits_same =
      let l = length-append pre samples in
      ⊎_elim
      (λ past. lt-leb _ _ (omega (arith, l)) ∙ sym (lt-leb _ _ past))
      (λ within. le-leb _ _ (omega (arith, l)) ∙ sym (le-leb _ _ within))
      (cases_lt (length samples) (sample_at n 0 w r c + n))

  pub shifted : raster_place n made (pre ++ samples) (length pre) w r c ≡ raster_place n made samples 0 w r c
  shifted =
      let t : made (channels_of n (λ i. get_or (pre ++ samples) (sample_at n (length pre) w r c + i) 0)) ≡ made (channels_of n (λ i. get_or samples (sample_at n 0 w r c + i) 0)) =
      ap made (channels_same n _ _ (λ i.
      let at : sample_at n (length pre) w r c + i ≡ length pre + (sample_at n 0 w r c + i) = omega arith in
      ap (λ m. get_or (pre ++ samples) m 0) at ∙ get_or-append-add pre samples (sample_at n 0 w r c + i) 0)) in
      let f = fits_same in
      cc

pub plain_page : {T : Type 0} (letter n : ℕ) (made : List ℕ → T) → PlainPage letter n made
plain_page letter n made w h samples w1 w2 h1 h2 =
    (plain_reads letter w h samples w1 w2 h1 h2, λ r c p q. shifted n made (plain_header letter w h) samples w r c)
