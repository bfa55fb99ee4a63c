-- Each step of the grammar can be decided, and is settled by the bytes and its place: so there is one outcome.
use Rattle.std.proofs.Common.{◌≡◌, ℕ, ◌+◌, ◌⊎◌, List, length, get_or, Ok, Err, Result, sym, refl, ap, ◌∙◌, subst, inl, inr, ⊎_elim, true≢false, arith}
use Rattle.std.proofs.lemmas.Bool.{cases_lt, cases_eq, cases_Bool}
use Rattle.std.specs.List.{between}
use Rattle.netpbm.proofs.Judged.{one_end}
use Rattle.netpbm.specs.declared.heading.Header.{Header}
use Rattle.netpbm.specs.Fields.{white, after_white, after_digits, decimal_value, Field, NoField}
use Rattle.netpbm.specs.Headers.{Lettered, SizeField, SizeRefused, no_field, out_of_range, LastField, MaximumField, MaximumRefused, no_last_field, not_full}
use Rattle.netpbm.specs.Headers.{Reading, no_letters, no_width, no_height, no_maximum, page, header}
use Rattle.netpbm.specs.Refusals.{Refusal, refusal}
use Rattle.page_laws.specs.Readings.{OneReading}

-- what a field says is settled by the bytes and its place
one_value : (bs : List ℕ) (p v q v' q' : ℕ) → Field bs p v q → Field bs p v' q' → v ≡ v'
one_value bs p v q v' q' f g =
    f.reads.reads ∙ (ap (λ e. decimal_value (between (after_white bs p) e bs)) (one_end bs p v q v' q' f g) ∙ sym g.reads.reads)

field_or_none : (bs : List ℕ) (p : ℕ) → ((v : ℕ) × (q : ℕ) × Field bs p v q) ⊎ NoField bs p
field_or_none bs p =
    let s = after_white bs p in
    let q = after_digits bs s in
    ⊎_elim
    (λ spaced. ⊎_elim
    (λ some. ⊎_elim
    (λ many. inr (λ v r f. omega (arith, f.reads.few, f.reads.whole, many)))
    (λ few. inl (decimal_value (between s q bs), q, record { spaced = spaced; reads = record { some = some; few = few; whole = refl; reads = refl } }))
    (cases_lt (s + 5) q))
    (λ none. inr (λ v r f. omega (arith, f.reads.some, f.reads.whole, none)))
    (cases_lt s q))
    (λ bare. inr (λ v r f. omega (arith, f.spaced, bare)))
    (cases_lt p s)

letters_or_none : (l : ℕ) (bs : List ℕ) → Lettered l bs ⊎ (Lettered l bs → ⊥)
letters_or_none l bs =
    ⊎_elim
    (λ short. inr (λ t. omega (arith, t.both, short)))
    (λ both. ⊎_elim
    (λ first. ⊎_elim (λ second. inl (record { both = both; first = first; second = second })) (λ no_second. inr (λ t. no_second t.second)) (cases_eq (get_or bs 1 0) l))
    (λ no-first. inr (λ t. no-first t.first))
    (cases_eq (get_or bs 0 0) 80))
    (cases_lt (length bs) 2)

size_or_refused : (bs : List ℕ) (p : ℕ) → ((v : ℕ) × (q : ℕ) × SizeField bs p v q) ⊎ ((n : ℕ) × SizeRefused bs p n)
size_or_refused bs p =
    ⊎_elim
    (λ f. ⊎_elim
    (λ low. inr (17, out_of_range f.0 f.1 f.2 (inl low)))
    (λ least. ⊎_elim
    (λ high. inr (17, out_of_range f.0 f.1 f.2 (inr high)))
    (λ most. inl (f.0, f.1, record { field = f.2; least = least; most = most }))
    (cases_lt 65535 f.0))
    (cases_lt f.0 1))
    (λ none. inr (16, no_field none))
    (field_or_none bs p)

last_or_none : (bs : List ℕ) (p : ℕ) → ((v : ℕ) × (q : ℕ) × LastField bs p v q) ⊎ ((v q : ℕ) → LastField bs p v q → ⊥)
last_or_none bs p =
    ⊎_elim
    (λ f. ⊎_elim
    (λ within. ⊎_elim
    (λ ended. inl (f.0, f.1, record { field = f.2; within = within; ended = ended }))
    (λ dark. inr (λ v q l.
    let e : q ≡ f.1 = one_end bs p v q f.0 f.1 l.field f.2 in
    true≢false (sym l.ended ∙ (ap (λ n. white (get_or bs n 0)) e ∙ dark))))
    (cases_Bool (white (get_or bs f.1 0))))
    (λ past. inr (λ v q l. omega (arith, l.within, past, one_end bs p v q f.0 f.1 l.field f.2)))
    (cases_lt f.1 (length bs)))
    (λ none. inr (λ v q l. none v q l.field))
    (field_or_none bs p)

maximum_or_refused : (bs : List ℕ) (p : ℕ) → ((o : ℕ) × MaximumField bs p o) ⊎ ((n : ℕ) × MaximumRefused bs p n)
maximum_or_refused bs p =
    ⊎_elim
    (λ l. ⊎_elim
    (λ full. inl (l.1 + 1, record { end = l.1; last = subst (λ (v : ℕ). LastField bs p v l.1) full l.2; after = refl }))
    (λ other. inr (18, not_full l.0 l.1 l.2 other))
    (cases_eq l.0 255))
    (λ none. inr (16, no_last_field none))
    (last_or_none bs p)

-- there is an outcome
some_reading : (l : ℕ) (bs : List ℕ) → (r : Result Header Refusal) × Reading l bs r
some_reading l bs =
    ⊎_elim
    (λ t. ⊎_elim
    (λ w. ⊎_elim
    (λ h. ⊎_elim
    (λ m. (Ok (header w.0 h.0 m.0), page t w.2 h.2 m.1))
    (λ bad. (Err (refusal bad.0 h.1), no_maximum t w.2 h.2 bad.1))
    (maximum_or_refused bs h.1))
    (λ bad. (Err (refusal bad.0 w.1), no_height t w.2 bad.1))
    (size_or_refused bs w.1))
    (λ bad. (Err (refusal bad.0 2), no_width t bad.1))
    (size_or_refused bs 2))
    (λ none. (Err (refusal 15 0), no_letters none))
    (letters_or_none l bs)

-- a field that is accepted is not refused, and each refusal has one number
not_both : (bs : List ℕ) (p v q n : ℕ) → SizeField bs p v q → SizeRefused bs p n → ⊥
not_both bs p v q n f (no_field none) = none v q f.field
not_both bs p v q n f (out_of_range v' q' g bad) =
    let e : v ≡ v' = one_value bs p v q v' q' f.field g in
    ⊎_elim (λ low. omega (arith, e, low, f.least)) (λ high. omega (arith, e, high, f.most)) bad

one_number : (bs : List ℕ) (p m n : ℕ) → SizeRefused bs p m → SizeRefused bs p n → m ≡ n
one_number bs p m n (no_field none) (no_field none') = refl
one_number bs p m n (no_field none) (out_of_range v q f bad) = absurd (none v q f)
one_number bs p m n (out_of_range v q f bad) (no_field none) = absurd (none v q f)
one_number bs p m n (out_of_range v q f bad) (out_of_range v' q' f' bad') = refl

one_size : (bs : List ℕ) (p v q v' q' : ℕ) → SizeField bs p v q → SizeField bs p v' q' → (v ≡ v') × (q ≡ q')
one_size bs p v q v' q' f g = (one_value bs p v q v' q' f.field g.field, one_end bs p v q v' q' f.field g.field)

one_raster : (bs : List ℕ) (p o o' : ℕ) → MaximumField bs p o → MaximumField bs p o' → o ≡ o'
one_raster bs p o o' m m' =
    m.after ∙ (ap (λ n. n + 1) (one_end bs p 255 m.end 255 m'.end m.last.field m'.last.field) ∙ sym m'.after)

not_both_last : (bs : List ℕ) (p o n : ℕ) → MaximumField bs p o → MaximumRefused bs p n → ⊥
not_both_last bs p o n m (no_last_field none) = none 255 m.end m.last
not_both_last bs p o n m (not_full v q l other) = other (one_value bs p v q 255 m.end l.field m.last.field)

one_last_number : (bs : List ℕ) (p m n : ℕ) → MaximumRefused bs p m → MaximumRefused bs p n → m ≡ n
one_last_number bs p m n (no_last_field none) (no_last_field none') = refl
one_last_number bs p m n (no_last_field none) (not_full v q l other) = absurd (none v q l)
one_last_number bs p m n (not_full v q l other) (no_last_field none) = absurd (none v q l)
one_last_number bs p m n (not_full v q l other) (not_full v' q' l' other') = refl

-- the same, where the two start at places that the fields before them settle
module _ (bs : List ℕ) (w p w' p' : ℕ) (f : SizeField bs 2 w p) (g : SizeField bs 2 w' p') where
  p_same : p ≡ p'
  p_same = (one_size bs 2 w p w' p' f g).1

  heights_clash : (n h q : ℕ) → SizeRefused bs p n → SizeField bs p' h q → ⊥
  heights_clash n h q bad k = not_both bs p' h q n k (subst (λ (x : ℕ). SizeRefused bs x n) p_same bad)

  heights_agree : (m n : ℕ) → SizeRefused bs p m → SizeRefused bs p' n → ◌≡◌ {A = Result Header Refusal} (Err (refusal m p)) (Err (refusal n p'))
  heights_agree m n a b =
      let s = p_same in
      let e : m ≡ n = one_number bs p' m n (subst (λ (x : ℕ). SizeRefused bs x m) s a) b in
      cc

  module _ (h q h' q' : ℕ) (i : SizeField bs p h q) (j : SizeField bs p' h' q') where
    sizes : (h ≡ h') × (q ≡ q')
    sizes = one_size bs p' h q h' q' (subst (λ (x : ℕ). SizeField bs x h q) p_same i) j

    maxima_clash : (n o : ℕ) → MaximumRefused bs q n → MaximumField bs q' o → ⊥
    maxima_clash n o bad m = not_both_last bs q' o n m (subst (λ (x : ℕ). MaximumRefused bs x n) sizes.1 bad)

    maxima_agree : (m n : ℕ) → MaximumRefused bs q m → MaximumRefused bs q' n → ◌≡◌ {A = Result Header Refusal} (Err (refusal m q)) (Err (refusal n q'))
    maxima_agree m n a b =
        let s = sizes.1 in
        let e : m ≡ n = one_last_number bs q' m n (subst (λ (x : ℕ). MaximumRefused bs x m) s a) b in
        cc

    pages_agree : (o o' : ℕ) → MaximumField bs q o → MaximumField bs q' o' → ◌≡◌ {A = Result Header Refusal} (Ok (header w h o)) (Ok (header w' h' o'))
    pages_agree o o' a b =
        let wide = (one_size bs 2 w p w' p' f g).0 in
        let high = sizes.0 in
        let e : o ≡ o' = one_raster bs q' o o' (subst (λ (x : ℕ). MaximumField bs x o) sizes.1 a) b in
        cc

-- two outcomes of the same bytes are one
same_reading : (l : ℕ) (bs : List ℕ) (r s : Result Header Refusal) → Reading l bs r → Reading l bs s → r ≡ s
same_reading l bs r s (no_letters a) (no_letters b) = refl
same_reading l bs r s (no_letters a) (no_width t b) = absurd (a t)
same_reading l bs r s (no_letters a) (no_height t f b) = absurd (a t)
same_reading l bs r s (no_letters a) (no_maximum t f g b) = absurd (a t)
same_reading l bs r s (no_letters a) (page t f g b) = absurd (a t)
same_reading l bs r s (no_width t a) (no_letters b) = absurd (b t)
same_reading l bs r s (no_width {n = m} t a) (no_width {n = n} u b) = ap (λ k. Err (refusal k 2)) (one_number bs 2 m n a b)
same_reading l bs r s (no_width {n = m} t a) (no_height {w = w} {p = p} u f b) = absurd (not_both bs 2 w p m f a)
same_reading l bs r s (no_width {n = m} t a) (no_maximum {w = w} {p = p} u f g b) = absurd (not_both bs 2 w p m f a)
same_reading l bs r s (no_width {n = m} t a) (page {w = w} {p = p} u f g b) = absurd (not_both bs 2 w p m f a)
same_reading l bs r s (no_height t f a) (no_letters b) = absurd (b t)
same_reading l bs r s (no_height {w = w} {p = p} t f a) (no_width {n = n} u b) = absurd (not_both bs 2 w p n f b)
same_reading l bs r s (no_height {n = m} {w = w} {p = p} t f a) (no_height {n = n} {w = v} {p = q} u g b) = heights_agree bs w p v q f g m n a b
same_reading l bs r s (no_height {n = m} {w = w} {p = p} t f a) (no_maximum {w = v} {p = q} {h = h} {q = z} u g i b) =
    absurd (heights_clash bs w p v q f g m h z a i)
same_reading l bs r s (no_height {n = m} {w = w} {p = p} t f a) (page {w = v} {p = q} {h = h} {q = z} u g i b) =
    absurd (heights_clash bs w p v q f g m h z a i)
same_reading l bs r s (no_maximum t f i a) (no_letters b) = absurd (b t)
same_reading l bs r s (no_maximum {w = w} {p = p} t f i a) (no_width {n = n} u b) = absurd (not_both bs 2 w p n f b)
same_reading l bs r s (no_maximum {w = w} {p = p} {h = h} {q = z} t f i a) (no_height {n = n} {w = v} {p = q} u g b) =
    absurd (heights_clash bs v q w p g f n h z b i)
same_reading l bs r s (no_maximum {n = m} {w = w} {p = p} {h = h} {q = z} t f i a) (no_maximum {n = n} {w = v} {p = q} {h = k} {q = y} u g j b) =
    maxima_agree bs w p v q f g h z k y i j m n a b
same_reading l bs r s (no_maximum {n = m} {w = w} {p = p} {h = h} {q = z} t f i a) (page {w = v} {p = q} {h = k} {q = y} {o = o} u g j b) =
    absurd (maxima_clash bs w p v q f g h z k y i j m o a b)
same_reading l bs r s (page t f i a) (no_letters b) = absurd (b t)
same_reading l bs r s (page {w = w} {p = p} t f i a) (no_width {n = n} u b) = absurd (not_both bs 2 w p n f b)
same_reading l bs r s (page {w = w} {p = p} {h = h} {q = z} t f i a) (no_height {n = n} {w = v} {p = q} u g b) =
    absurd (heights_clash bs v q w p g f n h z b i)
same_reading l bs r s (page {w = w} {p = p} {h = h} {q = z} {o = o} t f i a) (no_maximum {n = n} {w = v} {p = q} {h = k} {q = y} u g j b) =
    absurd (maxima_clash bs v q w p g f k y h z j i n o b a)
same_reading l bs r s (page {w = w} {p = p} {h = h} {q = z} {o = o} t f i a) (page {w = v} {p = q} {h = k} {q = y} {o = o'} u g j b) =
    pages_agree bs w p v q f g h z k y i j o o' a b

pub one_reading : OneReading
one_reading l bs = let r = some_reading l bs in (r.0, r.1, λ s t. same_reading l bs s r.0 t r.1)
