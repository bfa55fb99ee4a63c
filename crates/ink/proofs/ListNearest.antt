-- The list's search finds the nearest ink.
use Rattle.std.proofs.Common.{◌≡◌, ℕ, zero, suc, ◌+◌, ◌*◌, ◌<◌, ◌≤◌, max, ltb, Bool, List, [], ◌∷◌, length, get_or, drop, ℤ, pos, ◌-ℤ◌, sym, refl, ap, ◌∙◌, add-zero, arith}
use Rattle.std.proofs.lemmas.List.{drop_more, length-drop}
use Rattle.std.proofs.lemmas.List.MinMax.{IsFirstBest-keeps, IsFirstBest-none, IsFirstBest-takes, IsStrictWeakOrder-by_number}
use Rattle.std.specs.Cmp.{IsStrictWeakOrder}
use Rattle.std.specs.List.{IsFirstBest}
use Rattle.std.proofs.lemmas.Bool.{cond_both, ltb-false, ltb-true}
use Rattle.ink.specs.Lists.{ink_list, nearest_of, seek}
use Rattle.ink.specs.Nearness.{Nearest, channel_weight, distance, squared}

module _ {T : Type 0} (far : T → ℕ) (ts : List T) where
  abbrev nearer : T → T → Bool
  nearer x y = ltb (far x) (far y)

  order : IsStrictWeakOrder nearer
  order = IsStrictWeakOrder-by_number far

  -- the search from number i on, over the rest of the list
  seek_best : (rest : List T) (b i : ℕ) (y : T) → rest ≡ drop i ts → y ≡ get_or ts b y → IsFirstBest nearer ts i b
      → IsFirstBest nearer ts (i + length rest) (seek far b (far y) i rest)
  seek_best [] b i y r e best = rw (add-zero i) best
  seek_best (t ∷ rest) b i y r e best =
      let within : i < length ts = omega (arith, ap length r, length-drop i ts) in
      let here : t ∷ rest ≡ get_or ts i t ∷ drop (i + 1) ts = r ∙ drop_more ts i t within in
      let at : t ≡ get_or ts i t = cc in
      let next : rest ≡ drop (i + 1) ts = cc in
      let n : (i + 1) + length rest ≡ i + length (t ∷ rest) = omega arith in
      cond_both (nearer t y) (seek far i (far t) (i + 1) rest) (seek far b (far y) (i + 1) rest) (λ k. IsFirstBest nearer ts (i + length (t ∷ rest)) k)
      (λ q. rw (sym n) (seek_best rest i (i + 1) t next at (IsFirstBest-takes order ts i b t y best within at e q)))
      (λ q. rw (sym n) (seek_best rest b (i + 1) y next e (IsFirstBest-keeps order ts i b t y best within at e q)))

-- the whole search
list_best : {T : Type 0} (far : T → ℕ) (ts : List T) → IsFirstBest (nearer far ts) ts (max 1 (length ts)) (nearest_of far ts)
list_best far [] = IsFirstBest-none (order far []) []
list_best far (t ∷ ts) =
    let n : 1 + length ts ≡ max 1 (length (t ∷ ts)) = omega arith in
    rw (sym n) (seek_best far (t ∷ ts) ts 0 1 t refl refl (IsFirstBest-none (order far (t ∷ ts)) (t ∷ ts)))

pub list_nearest : {T : Type 0} (count : ℕ) (value : T → ℕ → ℕ) (made : List ℕ → T) (ts : List T) (few : length ts ≤ 256) (u : List ℤ)
    → Nearest (ink_list count value made ts few) u (nearest_of (distance count value u) ts)
list_nearest count value made ts few u =
    let best = list_best (distance count value u) ts in
    let dark = made (0 ∷ 0 ∷ 0 ∷ []) in
    record {
      one_of = best.0;
      no_nearer = λ j p. ltb-false _ _ (best.1 j dark p);
      first = λ j p. ltb-true _ _ (best.2 j dark p);
    }

-- the distance looks at no more than the channels
pub same_distance : {T : Type 0} (n : ℕ) (value : T → ℕ → ℕ) (u v : List ℤ) (t : T)
    → ((i : ℕ) → i < n → get_or u i (pos 0) ≡ get_or v i (pos 0)) → distance n value u t ≡ distance n value v t
same_distance zero value u v t e = refl
same_distance (suc n) value u v t e =
    ap (λ x. x + channel_weight n * squared (get_or u n (pos 0) -ℤ pos (value t n))) (same_distance n value u v t (λ i p. e i (omega arith)))
    ∙ ap (λ x. distance n value v t + channel_weight n * squared (x -ℤ pos (value t n))) (e n (omega arith))
