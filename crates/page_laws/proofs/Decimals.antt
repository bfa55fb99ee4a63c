-- A number written in decimal, between a white byte and a byte that is no digit, is a field of its value.
use Rattle.std.proofs.Common.{◌≡◌, ℕ, ◌+◌, ◌-◌, ◌^◌, ◌<◌, true, false, List, [], ◌∷◌, ◌++◌, length, take, drop, codes, decimal, sym, refl, ap, ◌∙◌, not-suc-le-zero, one-add, arith}
use Rattle.std.proofs.lemmas.Fmt.{decimal_step, decimal_digit, digits_value-decimal, length-decimal-le, decimal_nonempty, digits_decimal}
use Rattle.std.proofs.lemmas.List.{drop_at, drop-drop, take_at}
use Rattle.std.proofs.lemmas.Bool.{and_parts}
use Rattle.std.proofs.lemmas.Bool.Decides.{nat_tests}
use Rattle.std.specs.List.{between, prefix_len}
use Rattle.std.specs.Str.{all_ascii_digits}
use Rattle.netpbm.proofs.Digits.{own}
use Rattle.netpbm.specs.Fields.{white, digit, decimal_value, after_white, after_digits, Field}

all_decimal : (n : ℕ) → n < 2 ^ 64 → all_ascii_digits (decimal n) ≡ true
all_decimal n h = digits_decimal own n h

-- digits before a byte that is none
lead_digits : (ds : List ℕ) (x : ℕ) (post : List ℕ) → all_ascii_digits ds ≡ true → digit x ≡ false → prefix_len digit (ds ++ x ∷ post) ≡ length ds
lead_digits [] x post t f = rw f refl
lead_digits (d ∷ ds) x post t f =
    let p = and_parts (digit d) (all_ascii_digits ds) t in
    rw (p.0, lead_digits ds x post p.1 f) (one-add (length ds))

-- a digit is not white
no_white : (ds t : List ℕ) → all_ascii_digits ds ≡ true → 0 < length ds → prefix_len white (ds ++ t) ≡ 0
no_white [] t e h = absurd (not-suc-le-zero h)
no_white (d ∷ ds) t e h =
    let p = and_parts (digit d) (all_ascii_digits ds) e in
    let f : white d ≡ false = grind (arith, nat_tests) in
    rw f refl

pub field_at : (bs pre : List ℕ) (b n x : ℕ) (post : List ℕ) → bs ≡ pre ++ (b ∷ (decimal n ++ (x ∷ post)))
    → white b ≡ true → n < 10 ^ 5 → digit x ≡ false → Field bs (length pre) n (length pre + 1 + length (decimal n))
field_at bs pre b n x post e wb small dx =
    let rest = decimal n ++ (x ∷ post) in
    let at = length pre + 1 in
    let digits = all_decimal n (omega arith) in
    let cut : drop (length pre) bs ≡ b ∷ rest = ap (drop (length pre)) e ∙ drop_at pre (b ∷ rest) (length pre) refl in
    let some : 0 < length (decimal n) = decimal_nonempty n (omega arith) in
    let few = length-decimal-le 5 n (omega arith) small (omega arith) in
    let lead : prefix_len white (b ∷ rest) ≡ 1 = rw (wb, no_white (decimal n) (x ∷ post) digits some) refl in
    let start : after_white bs (length pre) ≡ at = ap (λ t. length pre + prefix_len white t) cut ∙ ap (λ k. length pre + k) lead in
    let cut1 : drop at bs ≡ rest = sym (drop-drop 1 (length pre) bs) ∙ ap (drop 1) cut in
    let end : after_digits bs at ≡ at + length (decimal n) =
    ap (λ t. at + prefix_len digit t) cut1 ∙ ap (λ k. at + k) (lead_digits (decimal n) x post digits dx) in
    let k : at + length (decimal n) - at ≡ length (decimal n) = omega arith in
    let text : between at (at + length (decimal n)) bs ≡ decimal n =
    ap (λ m. take m (drop at bs)) k ∙ (ap (take (length (decimal n))) cut1 ∙ take_at (decimal n) (x ∷ post) (length (decimal n)) refl) in
    let value : n ≡ decimal_value (between at (at + length (decimal n)) bs) = sym (ap decimal_value text ∙ digits_value-decimal own n (omega arith)) in
    record {
      spaced = omega (arith, start);
      reads = rw start (record { some = omega (arith, some); few = omega (arith, few); whole = sym end; reads = value });
    }

pub decimal_255 : decimal 255 ≡ codes "255"
decimal_255 =
    decimal_step 255 (omega arith) (omega arith)
    ∙ ap (λ t. t ++ 53 ∷ []) (decimal_step 25 (omega arith) (omega arith) ∙ ap (λ t. t ++ 53 ∷ []) (decimal_digit 2 (omega arith)))
