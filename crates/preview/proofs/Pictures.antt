-- One mark more of a row, and one row more of a picture.
use Rattle.std.proofs.Common.{◌≡◌, ℕ, ◌+◌, List, [], ◌∷◌, ◌++◌, map, sym, ap, ◌∙◌, append_assoc, arith}
use Rattle.std.proofs.lemmas.List.FromFn.{map-range_with_len_more}
use Rattle.std.proofs.lemmas.List.{flat_map_more, map-id}
use Rattle.std.specs.List.{range_with_len, flat_map}

pub marks_more : (f : ℕ → ℕ) (s : List ℕ) (n : ℕ) → (s ++ map f (range_with_len 0 n)) ++ f n ∷ [] ≡ s ++ map f (range_with_len 0 (n + 1))
marks_more f s n = append_assoc s (map f (range_with_len 0 n)) (f n ∷ []) ∙ ap (λ t. s ++ t) (sym (map-range_with_len_more f 0 n n (omega arith)))

counting_more : (n : ℕ) → range_with_len 0 (n + 1) ≡ range_with_len 0 n ++ n ∷ []
counting_more n =
    sym (map-id (range_with_len 0 (n + 1))) ∙ (map-range_with_len_more (λ x. x) 0 n n (omega arith) ∙ ap (λ t. t ++ n ∷ []) (map-id (range_with_len 0 n)))

pub rows_more : (f : ℕ → List ℕ) (n : ℕ) → flat_map f (range_with_len 0 n) ++ f n ≡ flat_map f (range_with_len 0 (n + 1))
rows_more f n = flat_map_more f [] (range_with_len 0 n) n ∙ ap (flat_map f) (sym (counting_more n))

pub row_ends : (f : ℕ → ℕ) (s : List ℕ) (n : ℕ) → (s ++ map f (range_with_len 0 n)) ++ 10 ∷ [] ≡ s ++ (map f (range_with_len 0 n) ++ 10 ∷ [])
row_ends f s n = append_assoc s (map f (range_with_len 0 n)) (10 ∷ [])
