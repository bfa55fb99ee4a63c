-- A slice that is filled by pieces of one length.
use Rattle.std.proofs.Common.{◌≡◌, ℕ, zero, suc, ◌+◌, ◌-◌, ◌*◌, ◌≤◌, List, [], ◌∷◌, ◌++◌, length, take, sym, ap, ◌∙◌, subst, add-mul, zero-mul, add-one, arith}
use Rattle.std.proofs.lemmas.List.FromFn.{map-range_with_len_more}
use Rattle.std.proofs.lemmas.List.{map-id, flat_map_more, length-append}
use Rattle.std.proofs.lemmas.Slice.{take-put_mid}
use Rattle.std.specs.List.{range_with_len, flat_map}
use borrow.Rule.Slice.PartMut.{put_mid}
use Rattle.writer.specs.Pages.{pieces}

counting_more : (n : ℕ) → range_with_len 0 (n + 1) ≡ range_with_len 0 n ++ n ∷ []
counting_more n =
    sym (map-id (range_with_len 0 (n + 1))) ∙ (map-range_with_len_more (λ x. x) 0 n n (omega arith) ∙ ap (λ t. t ++ n ∷ []) (map-id (range_with_len 0 n)))

pub pieces_more : (f : ℕ → List ℕ) (n : ℕ) → pieces f (n + 1) ≡ pieces f n ++ f n
pieces_more f n = ap (flat_map f) (counting_more n) ∙ sym (flat_map_more f [] (range_with_len 0 n) n)

-- n pieces of length k
pub pieces_long : (f : ℕ → List ℕ) (n k : ℕ) → ((i : ℕ) → length (f i) ≡ k) → length (pieces f n) ≡ n * k
pieces_long f zero k each = sym (zero-mul k)
pieces_long f (suc n) k each =
    let more : length (pieces f (n + 1)) ≡ (n + 1) * k =
    ap length (pieces_more f n) ∙ (length-append (pieces f n) (f n) ∙ omega (arith, pieces_long f n k each, each n, add-mul n 1 k)) in
    subst (λ (m : ℕ). length (pieces f m) ≡ m * k) (add-one n) more

-- after piece i was written over `out[i * k..(i + 1) * k]`
pub fill_more : (f : ℕ → List ℕ) (i k : ℕ) (out piece : List ℕ) → (i + 1) * k ≤ length out → length piece ≡ k → piece ≡ f i
    → take (i * k) out ≡ pieces f i → take ((i + 1) * k) (put_mid (i * k) ((i + 1) * k - i * k) out piece) ≡ pieces f (i + 1)
fill_more f i k out piece room long is before =
    take-put_mid (i * k) ((i + 1) * k - i * k) out piece ((i + 1) * k) (omega (arith, add-mul i 1 k)) (omega (arith, add-mul i 1 k))
    ∙ (ap (λ s. s ++ piece) before ∙ (ap (λ p. pieces f i ++ p) is ∙ sym (pieces_more f i)))
