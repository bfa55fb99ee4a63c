-- What the memory of a sheet holds, for every packing.
use Rattle.std.proofs.Common.{◌≡◌, ℕ, ◌+◌, ◌*◌, ◌/◌, ◌%◌, ◌<◌, ◌≤◌, ◌&&◌, eqb, List, ◌++◌, map, length, get_or, drop, set, Bool, true, false, cond, sym, refl, ap, mul-zero, ◌∙◌, ⊎_elim, arith}
use Rattle.std.proofs.lemmas.Nat.{div-mul-add, mod-mul-add, mul-add-lt, div-add-mod'}
use Rattle.std.proofs.lemmas.List.FromFn.{fill_by_all, get_or-map-range_with_len, length-map-range_with_len}
use Rattle.std.proofs.lemmas.List.{drop_at, get_or_append_left, get_or-set_same, get_or-set_other, length-set, set-append_left}
use Rattle.std.proofs.lemmas.Bool.{cases_eq, cond_both}
use Rattle.std.specs.List.{range_with_len}
use Rattle.sheet.specs.Laying.{put}
use Rattle.sheet.specs.Marks.{marked_below}
use Rattle.sheet.specs.Memory.{blank, lent_ink, lent_memory}
use Rattle.sheet.specs.Packing.{PackingLaws, PackingMeaning}
use Rattle.sheet.proofs.Places.{put_other, row_of, column_of, same_made}

module _ (p : PackingMeaning) (laws : PackingLaws p) where
  -- the place of a byte
  pub within : (r c w h n : ℕ) → r < h → c < w → p.stride w * h ≤ n → r * p.stride w + p.byte_of c < n
  within r c w h n q l room = omega (arith, mul-add-lt r (p.stride w) (p.byte_of c) h q (laws.inside w c l))

  -- inks that agree at the places of the sheet make one memory
  pub same : (w h : ℕ) (f g : ℕ → ℕ → ℕ) (past : List ℕ) → ((i j : ℕ) → i < h → j < w → f i j ≡ g i j)
      → lent_memory p w h f past ≡ lent_memory p w h g past
  same w h f g past e =
      ap (λ t. t ++ past)
      (same_made _ _ (p.stride w * h) (λ k l.
      laws.local w f g (k / p.stride w) (k % p.stride w) (column_of k (p.stride w) h l)
      (λ c m n. e (k / p.stride w) c (row_of k (p.stride w) h l) m)))

  module _ (xs : List ℕ) (w h : ℕ) (f : ℕ → ℕ → ℕ) (past : List ℕ) (e : xs ≡ lent_memory p w h f past) where
    -- the bytes of the rows
    abbrev row : ℕ → ℕ
    row k = p.row_byte w f (k / p.stride w) (k % p.stride w)

    abbrev rows : List ℕ
    rows = map row (range_with_len 0 (p.stride w * h))

    rows_long : length rows ≡ p.stride w * h
    rows_long = length-map-range_with_len row 0 (p.stride w * h)

    pub past_of : drop (p.stride w * h) xs ≡ past
    past_of = rw e (drop_at rows past (p.stride w * h) rows_long)

    -- the byte of a place
    pub byte_at : (i j : ℕ) → i < h → j < w → get_or xs (i * p.stride w + p.byte_of j) 0 ≡ p.row_byte w f i (p.byte_of j)
    byte_at i j q l =
        let at : ℕ = i * p.stride w + p.byte_of j in
        let m : p.byte_of j < p.stride w = laws.inside w j l in
        let n : at < p.stride w * h = mul-add-lt i (p.stride w) (p.byte_of j) h q m in
        let there : p.row_byte w f (at / p.stride w) (at % p.stride w) ≡ p.row_byte w f i (p.byte_of j) =
        rw (div-mul-add i (p.stride w) (p.byte_of j) m, mod-mul-add i (p.stride w) (p.byte_of j) m) refl in
        ap (λ t. get_or t at 0) e
        ∙ (get_or_append_left rows past 0 at (omega (arith, rows_long))
        ∙ (get_or-map-range_with_len row 0 (p.stride w * h) at at 0 n (omega arith) ∙ there))

    -- the inks of the rows, where they are below the limit
    pub inks_of : (i j : ℕ) → i < h → j < w → f i j < p.limit → lent_ink p xs w i j ≡ f i j
    inks_of i j q l small = ap (λ b. p.ink_in b j) (byte_at i j q l) ∙ laws.holds w f i j l small

    -- the memory by the inks that are read in it
    pub whole : ((i j : ℕ) → i < h → j < w → f i j < p.limit) → xs ≡ lent_memory p w h (lent_ink p xs w) (drop (p.stride w * h) xs)
    whole small =
        e ∙ (same w h f (lent_ink p xs w) past (λ i j q l. sym (inks_of i j q l (small i j q l)))
        ∙ ap (λ t. lent_memory p w h (lent_ink p xs w) t) (sym past_of))

    -- one byte written anew, with the ink of one place changed
    pub relaid : (r c number v : ℕ) → r < h → c < w → v ≡ p.row_byte w (put f r c number) r (p.byte_of c)
        → set xs (r * p.stride w + p.byte_of c) v ≡ lent_memory p w h (put f r c number) past
    relaid r c number v q l new =
        let g : ℕ → ℕ → ℕ = put f r c number in
        let at : ℕ = r * p.stride w + p.byte_of c in
        let b : p.byte_of c < p.stride w = laws.inside w c l in
        let n : at < length rows = rw rows_long (mul-add-lt r (p.stride w) (p.byte_of c) h q b) in
        ap (λ t. set t at v) e
        ∙ (set-append_left rows past at v n
        ∙ ap (λ t. t ++ past)
        (fill_by_all (λ k. p.row_byte w g (k / p.stride w) (k % p.stride w)) (set rows at v) (p.stride w * h) 0 (length-set rows at v ∙ rows_long)
        (λ k m.
        ⊎_elim
        (λ (here : k ≡ at).
        rw (here, get_or-set_same rows at v 0 n, div-mul-add r (p.stride w) (p.byte_of c) b, mod-mul-add r (p.stride w) (p.byte_of c) b) new)
        (λ (other : k ≡ at → ⊥).
        get_or-set_other rows at k v 0 other
        ∙ (get_or-map-range_with_len row 0 (p.stride w * h) k k 0 m (omega arith)
        ∙ laws.local w f g (k / p.stride w) (k % p.stride w) (column_of k (p.stride w) h m)
        (λ d _ in_byte. sym (put_other f r c number (k / p.stride w) d
        (λ place. let i = place.0 in let j = place.1 in let whole = div-add-mod' k (p.stride w) in other cc)))))
        (cases_eq k at))))

  -- what is left of a sheet's memory where the byte of a place is written anew for another ink
  pub record Relaid (xs ys : List ℕ) (w h r c number : ℕ) : Type 0 where
    pub inks : (i j : ℕ) → i < h → j < w → lent_ink p ys w i j ≡ put (lent_ink p xs w) r c number i j
    pub below : (i j : ℕ) → i < h → j < w → lent_ink p ys w i j < p.limit
    pub packed : ys ≡ lent_memory p w h (lent_ink p ys w) (drop (p.stride w * h) ys)
    pub past : drop (p.stride w * h) ys ≡ drop (p.stride w * h) xs

  pub laid_anew : (xs : List ℕ) (w h r c number at v : ℕ) → r < h → c < w → number < p.limit → at ≡ r * p.stride w + p.byte_of c
      → ((i j : ℕ) → i < h → j < w → lent_ink p xs w i j < p.limit)
      → xs ≡ lent_memory p w h (lent_ink p xs w) (drop (p.stride w * h) xs)
      → (get_or xs at 0 ≡ p.row_byte w (lent_ink p xs w) r (p.byte_of c) → v ≡ p.row_byte w (put (lent_ink p xs w) r c number) r (p.byte_of c))
      → Relaid xs (set xs at v) w h r c number
  laid_anew xs w h r c number at v q l small e below packed new =
      let f : ℕ → ℕ → ℕ = lent_ink p xs w in
      let past : List ℕ = drop (p.stride w * h) xs in
      let old : get_or xs at 0 ≡ p.row_byte w f r (p.byte_of c) = ap (λ x. get_or xs x 0) e ∙ byte_at xs w h f past packed r c q l in
      let now : set xs at v ≡ lent_memory p w h (put f r c number) past =
      ap (λ x. set xs x v) e ∙ relaid xs w h f past packed r c number v q l (new old) in
      let few : (i j : ℕ) → i < h → j < w → put f r c number i j < p.limit =
      λ i j a b. cond_both (eqb i r && eqb j c) number (f i j) (λ x. x < p.limit) (λ _. small) (λ _. below i j a b) in
      let inks : (i j : ℕ) → i < h → j < w → lent_ink p (set xs at v) w i j ≡ put f r c number i j =
      λ i j a b. inks_of (set xs at v) w h (put f r c number) past now i j a b (few i j a b) in
      record {
        inks = inks;
        below = λ i j a b. rw (inks i j a b) (few i j a b);
        packed = whole (set xs at v) w h (put f r c number) past now few;
        past = past_of (set xs at v) w h (put f r c number) past now;
      }

  -- what a new sheet's memory is, once it was marked
  pub ended : (xs ys m : List ℕ) (w h v u row column : ℕ) → v ≡ w → u ≡ h
      → xs ≡ lent_memory p w h blank (drop (p.stride w * h) m)
      → ys ≡ lent_memory p v u (lent_ink p ys v) (drop (p.stride v * u) ys)
      → drop (p.stride v * u) ys ≡ drop (p.stride w * h) xs
      → ((i j : ℕ) → i < h → j < w → lent_ink p ys v i j ≡ marked_below p.limit (lent_ink p xs w) row column i j)
      → ys ≡ lent_memory p w h (marked_below p.limit blank row column) (drop (p.stride w * h) m)
  ended xs ys m w h v u row column ev eu new packed kept inks =
      let past : List ℕ = drop (p.stride w * h) m in
      packed
      ∙ (ap (λ t. lent_memory p v u (lent_ink p ys v) t) (kept ∙ past_of xs w h blank past new)
      ∙ (ap (λ x. lent_memory p x u (lent_ink p ys v) past) ev
      ∙ (ap (λ x. lent_memory p w x (lent_ink p ys v) past) eu
      ∙ same w h (lent_ink p ys v) (marked_below p.limit blank row column) past
      (λ i j q l. inks i j q l ∙ rw (inks_of xs w h blank past new i j q l laws.some) refl))))

  -- a sheet that could not be made has no bytes
  pub sized : (b : Bool) (w h v u : ℕ) (f : ℕ → ℕ → ℕ) (ys m : List ℕ) → v ≡ cond b w 0 → u ≡ cond b h 0
      → ys ≡ lent_memory p v u f (drop (p.stride v * u) m) → ys ≡ cond b (lent_memory p w h f (drop (p.stride w * h) m)) m
  sized true w h v u f ys m ev eu e = rw (ev, eu) at e
  sized false w h v u f ys m ev eu e = rw (ev, eu, mul-zero) at e
