-- The round trip: each sample of a written page stands where the reader looks for it.
use Rattle.std.proofs.Common.{◌≡◌, ℕ, zero, suc, ◌+◌, ◌-◌, ◌*◌, ◌<◌, ◌≤◌, leb, List, ◌++◌, length, get_or, take, drop, Ok, Err, Result, sym, refl, ap, ◌∙◌, subst, ⊎_elim, append_assoc, mul_assoc, mul_comm, add-mul, zero-add, arith}
use Rattle.std.proofs.lemmas.Nat.{mul-add-lt}
use Rattle.std.proofs.lemmas.List.Concat.{get_or-flat_map}
use Rattle.std.proofs.lemmas.List.FromFn.{get_or-map-range_with_len, get_or-range_with_len, length-map-range_with_len, length-range_with_len, take-map-range_with_len}
use Rattle.std.proofs.lemmas.List.{length-append, get_or_append_left, map-id}
use Rattle.std.specs.List.{flat_map, range_with_len}
use Rattle.std.proofs.lemmas.Bool.{cases_Bool, le-leb, lt-ltb}
use Rattle.ink.specs.Inks.{Inks, ink_tone}
use Rattle.netpbm.specs.Plain.{plain_header}
use Rattle.netpbm.specs.Rasters.{raster_place, sample_at}
use Rattle.page_laws.proofs.Plain.{plain_page}
use Rattle.sheet.specs.Meaning.{SheetBounds, SheetMeaning}
use Rattle.source.specs.Pages.{tone}
use Rattle.tone.specs.Channels.{channels_of}
use Rattle.writer.specs.Back.{ReadsBack, Back}
use Rattle.writer.specs.Buffers.{Wrote}
use Rattle.writer.specs.Pages.{pieces, tone_bytes, tone_row, tone_raster, tone_page}
use Rattle.writer.proofs.Fill.{pieces_long}

counting_take : (n i : ℕ) → i ≤ n → take i (range_with_len 0 n) ≡ range_with_len 0 i
counting_take n i h =
    ap (take i) (sym (map-id (range_with_len 0 n))) ∙ (take-map-range_with_len (λ x. x) 0 n i h ∙ map-id (range_with_len 0 i))

-- byte j of piece i, among n pieces of length k
pub piece_at : (f : ℕ → List ℕ) (n k i j : ℕ) → ((i : ℕ) → length (f i) ≡ k) → i < n → j < k → get_or (pieces f n) (i * k + j) 0 ≡ get_or (f i) j 0
piece_at f n k i j each p q =
    let at : get_or (range_with_len 0 n) i 0 ≡ i = get_or-range_with_len 0 n i 0 p ∙ zero-add i in
    let place : length (flat_map f (take i (range_with_len 0 n))) + j ≡ i * k + j =
    rw (counting_take n i (omega arith)) (ap (λ m. m + j) (pieces_long f i k each)) in
    ap (λ m. get_or (pieces f n) m 0) (sym place)
    ∙ (get_or-flat_map f (range_with_len 0 n) i j 0 0 (omega (arith, length-range_with_len 0 n)) (rw at (omega (arith, each i))) ∙ ap (λ m. get_or (f m) j 0) at)

channel_at : (n : ℕ) (f : ℕ → ℕ) (i : ℕ) → i < n → n ≤ 3 → get_or (channels_of n f) i 0 ≡ f i
channel_at n f zero h few = rw (lt-ltb 0 n h) refl
channel_at n f (suc zero) h few = rw (lt-ltb 1 n h) refl
channel_at n f (suc (suc zero)) h few = rw (lt-ltb 2 n h) refl
channel_at n f (suc (suc (suc i))) h few = absurd (omega arith)

module _ {T : Type 0} (letter n : ℕ) (value : T → ℕ → ℕ) (made : List ℕ → T) (m : Inks T) (s : SheetMeaning) (past : List ℕ)
    (some : 1 ≤ n) (few : n ≤ 3) (byte : (t : T) (i : ℕ) → i < n → value t i ≤ 255)
    (gives : (v : List ℕ) (i : ℕ) → i < n → get_or v i 0 ≤ 255 → value (made v) i ≡ get_or v i 0) where
  abbrev laid : ℕ → ℕ → T
  laid r c = ink_tone m (s.ink r c)

  place_long : (r c : ℕ) → length (tone_bytes n value m s r c) ≡ n
  place_long r c = length-map-range_with_len _ 0 n

  row_long : (r : ℕ) → length (tone_row n value m s r) ≡ s.width * n
  row_long r = pieces_long (tone_bytes n value m s r) s.width n (place_long r)

  -- where channel i of a place stands among the samples
  at_same : (r c i : ℕ) → (r * s.width + c) * n + i ≡ r * (s.width * n) + (c * n + i)
  at_same r c i = omega (arith, add-mul (r * s.width) c n, mul_assoc r s.width n)

  row_holds : (c i : ℕ) → c < s.width → i < n → c * n + i < s.width * n
  row_holds c i q t = omega (arith, mul-add-lt c n i s.width q t, mul_comm n s.width)

  raster_holds : (r c i : ℕ) → r < s.height → c < s.width → i < n → (r * s.width + c) * n + i < length (tone_raster n value m s)
  raster_holds r c i p q t =
      omega (arith, at_same r c i, mul-add-lt r (s.width * n) (c * n + i) s.height p (row_holds c i q t), mul_comm (s.width * n) s.height, pieces_long (tone_row n value m s) s.height (s.width * n) row_long)

  sample_is : (r c i : ℕ) → r < s.height → c < s.width → i < n → get_or (tone_raster n value m s ++ past) ((r * s.width + c) * n + i) 0 ≡ value (laid r c) i
  sample_is r c i p q t =
      let in_row = row_holds c i q t in
      let inside = raster_holds r c i p q t in
      get_or_append_left (tone_raster n value m s) past 0 ((r * s.width + c) * n + i) inside
      ∙ (ap (λ x. get_or (tone_raster n value m s) x 0) (at_same r c i)
      ∙ (piece_at (tone_row n value m s) s.height (s.width * n) r (c * n + i) row_long p in_row
      ∙ (piece_at (tone_bytes n value m s r) s.width n c i (place_long r) q t
      ∙ get_or-map-range_with_len (value (laid r c)) 0 n i i 0 t (omega arith))))

  place_fits : (r c : ℕ) → r < s.height → c < s.width → sample_at n 0 s.width r c + n ≤ length (tone_raster n value m s ++ past)
  place_fits r c p q = omega (arith, raster_holds r c (n - 1) p q (omega arith), length-append (tone_raster n value m s) past)

  -- the tone that the reader builds at a place
  abbrev built : ℕ → ℕ → T
  built r c = made (channels_of n (λ i. get_or (tone_raster n value m s ++ past) (sample_at n 0 s.width r c + i) 0))

  built_is : (r c i : ℕ) → r < s.height → c < s.width → i < n → value (built r c) i ≡ value (laid r c) i
  built_is r c i p q t =
      let f : ℕ → ℕ = λ i. get_or (tone_raster n value m s ++ past) (sample_at n 0 s.width r c + i) 0 in
      let at : sample_at n 0 s.width r c + i ≡ (r * s.width + c) * n + i = omega arith in
      let here : get_or (channels_of n f) i 0 ≡ value (laid r c) i = channel_at n f i t few ∙ (ap (λ x. get_or (tone_raster n value m s ++ past) x 0) at ∙ sample_is r c i p q t) in
      gives (channels_of n f) i t (omega (arith, here, byte (laid r c) i t)) ∙ here

  read_place : (r c : ℕ) → r < s.height → c < s.width → raster_place n made (tone_raster n value m s ++ past) 0 s.width r c ≡ tone (built r c)
  read_place r c p q = rw (le-leb (sample_at n 0 s.width r c + n) (length (tone_raster n value m s ++ past)) (place_fits r c p q)) refl

  pub reads_back : SheetBounds s → 1 ≤ s.width → 1 ≤ s.height → ReadsBack letter n value made m s (tone_page n value m s letter ++ past)
  reads_back bounds wide high =
      let law = plain_page letter n made s.width s.height (tone_raster n value m s ++ past) wide bounds.wide high bounds.high in
      let head = plain_header letter s.width s.height in
      let whole : tone_page n value m s letter ++ past ≡ head ++ (tone_raster n value m s ++ past) = append_assoc head (tone_raster n value m s) past in
      subst (λ (bs : List ℕ). ReadsBack letter n value made m s bs) (sym whole)
      (record {
        raster = length head;
        reads = law.0;
        tones = λ r c p q. record { read = built r c; there = law.1 r c p q ∙ read_place r c p q; same = λ i t. built_is r c i p q t };
      })

wrote_ok : (page before after : List ℕ) (k : ℕ) → Wrote page before after (Ok k) → after ≡ page ++ drop (length page) before
wrote_ok page before after k w =
    ⊎_elim (λ fits. w.buffer ∙ rw fits refl) (λ short. let bad : Ok k ≡ Err 19 = w.answer ∙ rw short refl in cc) (cases_Bool (leb (length page) (length before)))

-- a page of tones that was written reads back from the buffer
pub back_after : {T : Type 0} (letter n : ℕ) (value : T → ℕ → ℕ) (made : List ℕ → T) (m : Inks T) (s : SheetMeaning) → SheetBounds s →
    1 ≤ n → n ≤ 3 → ((t : T) (i : ℕ) → i < n → value t i ≤ 255) →
    ((v : List ℕ) (i : ℕ) → i < n → get_or v i 0 ≤ 255 → value (made v) i ≡ get_or v i 0) →
    (before after : List ℕ) (r : Result ℕ ℕ) → Wrote (tone_page n value m s letter) before after r → Back letter n value made m s after r
back_after letter n value made m s bounds some few byte gives before after (Err k) w = tt
back_after letter n value made m s bounds some few byte gives before after (Ok k) w = λ no wide high.
    let page = tone_page n value m s letter in
    subst (λ (bs : List ℕ). ReadsBack letter n value made m s bs) (sym (wrote_ok page before after k w))
    (reads_back letter n value made m s (drop (length page) before) some few byte gives bounds wide high)
