-- The digits of a number, as the library reads them.
use Rattle.std.proofs.Common.{◌≡◌, ℕ, ◌+◌, ◌-◌, ◌*◌, ◌<◌, ◌≤◌, Bool, true, List, [], ◌∷◌, ◌++◌, length, get_or, ap, ◌∙◌, min, zero, suc, take, drop, fold, refl, ⊎_elim, one-add, add-one, pow-suc, ◌^◌, arith, rules}
use Rattle.std.proofs.lemmas.Bool.{and_parts, cases_Bool}
use Rattle.std.proofs.lemmas.Bool.Decides.{nat_tests}
use Rattle.std.proofs.Math.Seq.{take-suc}
use Rattle.std.proofs.lemmas.List.{length-drop}
use Rattle.std.proofs.lemmas.List.Sums.{fold_push, prefix_len-le-length}
use Rattle.std.proofs.lemmas.Str.Parse.{IsNumeralModel, numerals_by_fold, tells_all_ascii_digits}
use Rattle.std.specs.List.{between, prefix_len}
use Rattle.std.specs.Str.{all_ascii_digits}
use Rattle.netpbm.specs.Fields.{digit, decimal_value}

-- the value of digits is the library's
pub own : IsNumeralModel (λ ds. all_ascii_digits ds ≡ true) decimal_value
own = numerals_by_fold _ tells_all_ascii_digits (λ n ds. fold (λ n c. n * 10 + (c - 48)) n ds) (search rules)

-- a run of bytes that pass a test stays within the bytes, and a run of digits has digits alone
pub run_within : (p : ℕ → Bool) (bs : List ℕ) (i : ℕ) → prefix_len p (drop i bs) ≤ length bs - i
run_within p bs i = omega (arith, prefix_len-le-length p (drop i bs), length-drop i bs)

-- a run that ends within the first n bytes
pub run_taken : (p : ℕ → Bool) (n : ℕ) (bs : List ℕ) → prefix_len p (take n bs) ≡ min n (prefix_len p bs)
run_taken p zero bs = omega arith
run_taken p (suc n) [] = omega arith
run_taken p (suc n) (b ∷ bs) =
    ⊎_elim
    (λ yes. rw yes (omega (arith, run_taken p n bs)))
    (λ no. rw no (omega arith))
    (cases_Bool (p b))

pub taken_within : (p : ℕ → Bool) (bs : List ℕ) (i n : ℕ) → prefix_len p (take n (drop i bs)) ≤ length bs - i
taken_within p bs i n = omega (arith, run_taken p n (drop i bs), run_within p bs i)

all_digits : (bs : List ℕ) → all_ascii_digits (take (prefix_len digit bs) bs) ≡ true
all_digits [] = refl
all_digits (b ∷ bs) =
    ⊎_elim
    (λ yes. rw (yes, one-add) (rw yes (all_digits bs)))
    (λ no. rw no refl)
    (cases_Bool (digit b))

pub run_digits : (bs : List ℕ) (i n : ℕ) → n ≡ prefix_len digit (drop i bs) → all_ascii_digits (between i (i + n) bs) ≡ true
run_digits bs i n e =
    let k : i + n - i ≡ prefix_len digit (drop i bs) = omega (arith, e) in
    rw k (all_digits (drop i bs))

pub taken_digits : (bs : List ℕ) (i n : ℕ) → n ≡ prefix_len digit (take 6 (drop i bs)) → n ≤ 5 → all_ascii_digits (between i (i + n) bs) ≡ true
taken_digits bs i n e few = run_digits bs i n (omega (arith, e, few, run_taken digit 6 (drop i bs)))

-- each byte of digits is one
pub digit_at : (ds : List ℕ) (i : ℕ) → all_ascii_digits ds ≡ true → i < length ds → (48 ≤ get_or ds i 0) × (get_or ds i 0 ≤ 57)
digit_at [] i all h = absurd (omega arith)
digit_at (d ∷ ds) zero all h = grind (arith, nat_tests, and_parts (digit d) (all_ascii_digits ds) all)
digit_at (d ∷ ds) (suc i) all h = digit_at ds i (and_parts (digit d) (all_ascii_digits ds) all).1 (omega arith)

-- one digit more
pub value_more : (ds : List ℕ) (i : ℕ) → i < length ds → decimal_value (take (i + 1) ds) ≡ decimal_value (take i ds) * 10 + (get_or ds i 0 - 48)
value_more ds i h =
    let one : take (i + 1) ds ≡ take i ds ++ (get_or ds i 0 ∷ []) = rw add-one (take-suc ds i 0 h) in
    ap decimal_value one ∙ fold_push (λ n c. n * 10 + (c - 48)) 0 (take i ds) (get_or ds i 0)

pub pow_more : (i : ℕ) → 10 ^ (i + 1) ≡ 10 ^ i * 10
pow_more i = rw add-one (pow-suc 10 i)
