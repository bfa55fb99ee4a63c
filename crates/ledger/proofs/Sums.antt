-- Finite sums of whole numbers: linear, exchanged, of one term, telescoping, and their size.
use Rattle.std.proofs.Common.{◌≡◌, ℕ, zero, suc, ◌*◌, ◌<◌, ◌≤◌, Bool, true, List, [], ◌∷◌, ℤ, pos, ◌+ℤ◌, ◌-ℤ◌, ◌*ℤ◌, nat_abs, refl, ap, ◌∙◌, ⊎_elim, arith}
use borrow.Author.Differences.{ints}
use Rattle.std.proofs.lemmas.Bool.{cases_eq}
use Rattle.ledger.specs.Sums.{Σ<, Σ∈, given}
use Rattle.ledger.proofs.Ring.{mul_add, abs_add}

pub ΣExt : (n : ℕ) (f g : ℕ → ℤ) → ((k : ℕ) → k < n → f k ≡ g k) → Σ< n f ≡ Σ< n g
ΣExt zero f g h = refl
ΣExt (suc n) f g h =
    let p = ΣExt n f g (λ k l. h k (omega arith)) in
    let q = h n (omega arith) in
    omega (arith, ints)

pub ΣZero : (n : ℕ) (f : ℕ → ℤ) → ((k : ℕ) → k < n → f k ≡ pos 0) → Σ< n f ≡ pos 0
ΣZero zero f h = refl
ΣZero (suc n) f h =
    let p = ΣZero n f (λ k l. h k (omega arith)) in
    let q = h n (omega arith) in
    omega (arith, ints)

pub ΣAdd : (n : ℕ) (f g : ℕ → ℤ) → Σ< n (λ k. f k +ℤ g k) ≡ Σ< n f +ℤ Σ< n g
ΣAdd zero f g = refl
ΣAdd (suc n) f g = let p = ΣAdd n f g in omega (arith, ints)

pub ΣSub : (n : ℕ) (f g : ℕ → ℤ) → Σ< n (λ k. f k -ℤ g k) ≡ Σ< n f -ℤ Σ< n g
ΣSub zero f g = refl
ΣSub (suc n) f g = let p = ΣSub n f g in omega (arith, ints)

pub ΣSix : (n : ℕ) (a b c d e f : ℕ → ℤ) → Σ< n (λ k. a k +ℤ b k +ℤ c k +ℤ d k +ℤ e k +ℤ f k) ≡ Σ< n a +ℤ Σ< n b +ℤ Σ< n c +ℤ Σ< n d +ℤ Σ< n e +ℤ Σ< n f
ΣSix n a b c d e f =
    ΣAdd n (λ k. a k +ℤ b k +ℤ c k +ℤ d k +ℤ e k) f ∙ ap (λ z. z +ℤ Σ< n f)
    (ΣAdd n (λ k. a k +ℤ b k +ℤ c k +ℤ d k) e ∙ ap (λ z. z +ℤ Σ< n e)
    (ΣAdd n (λ k. a k +ℤ b k +ℤ c k) d ∙ ap (λ z. z +ℤ Σ< n d)
    (ΣAdd n (λ k. a k +ℤ b k) c ∙ ap (λ z. z +ℤ Σ< n c) (ΣAdd n a b))))

pub ΣMul : (n : ℕ) (a : ℤ) (f : ℕ → ℤ) → Σ< n (λ k. a *ℤ f k) ≡ a *ℤ Σ< n f
ΣMul zero a f = omega (arith, ints)
ΣMul (suc n) a f = omega (arith, ints, ΣMul n a f, mul_add a (Σ< n f) (f n))

pub ΣAbs : (n B : ℕ) (f : ℕ → ℤ) → ((k : ℕ) → k < n → nat_abs (f k) ≤ B) → nat_abs (Σ< n f) ≤ n * B
ΣAbs zero B f h = omega arith
ΣAbs (suc n) B f h =
    let p = ΣAbs n B f (λ k l. h k (omega arith)) in
    let q = h n (omega arith) in
    omega (arith, abs_add (Σ< n f) (f n))

pub ΣNone : (n : ℕ) (b : ℕ → Bool) (f : ℕ → ℤ) → ((k : ℕ) → k < n → b k ≡ true → ⊥) → Σ< n (λ k. given (b k) (f k)) ≡ pos 0
ΣNone n b f h = ΣZero n (λ k. given (b k) (f k)) (λ k m. let no = h k m in grind arith)

-- one term alone
pub ΣOne : (n : ℕ) (b : ℕ → Bool) (f : ℕ → ℤ) (i : ℕ) → i < n → b i ≡ true → ((k : ℕ) → k < n → b k ≡ true → k ≡ i) → Σ< n (λ k. given (b k) (f k)) ≡ f i
ΣOne zero b f i l y u = absurd (omega arith)
ΣOne (suc n) b f i l y u = ⊎_elim
    (λ e. let z = ΣNone n b f (λ k m q. omega (arith, u k (omega arith) q)) in grind (arith, ints))
    (λ e. let more = ΣOne n b f i (omega arith) y (λ k m. u k (omega arith)) in let only = u n in grind (arith, ints))
    (cases_eq i n)

pub given_abs : (b : Bool) (z : ℤ) (B : ℕ) → nat_abs z ≤ B → nat_abs (given b z) ≤ B
given_abs b z B h = grind (arith, ints)

pub ΣTelescope : (n : ℕ) (f : ℕ → ℤ) → Σ< n (λ k. f (suc k) -ℤ f k) ≡ f n -ℤ f 0
ΣTelescope zero f = omega (arith, ints)
ΣTelescope (suc n) f = let p = ΣTelescope n f in omega (arith, ints)

-- ---- over a list
pub Σ∈Ext : {X : Type 0} (xs : List X) (f g : X → ℤ) → ((x : X) → f x ≡ g x) → Σ∈ xs f ≡ Σ∈ xs g
Σ∈Ext [] f g h = refl
Σ∈Ext (x ∷ xs) f g h = let p = Σ∈Ext xs f g h in let q = h x in omega (arith, ints)

pub Σ∈Add : {X : Type 0} (xs : List X) (f g : X → ℤ) → Σ∈ xs (λ x. f x +ℤ g x) ≡ Σ∈ xs f +ℤ Σ∈ xs g
Σ∈Add [] f g = refl
Σ∈Add (x ∷ xs) f g = let p = Σ∈Add xs f g in omega (arith, ints)

pub Σ∈Sub : {X : Type 0} (xs : List X) (f g : X → ℤ) → Σ∈ xs (λ x. f x -ℤ g x) ≡ Σ∈ xs f -ℤ Σ∈ xs g
Σ∈Sub [] f g = refl
Σ∈Sub (x ∷ xs) f g = let p = Σ∈Sub xs f g in omega (arith, ints)

-- the two sums change places
pub ΣSwap : {X : Type 0} (n : ℕ) (xs : List X) (f : X → ℕ → ℤ) → Σ< n (λ k. Σ∈ xs (λ x. f x k)) ≡ Σ∈ xs (λ x. Σ< n (f x))
ΣSwap zero [] f = refl
ΣSwap zero (x ∷ xs) f = let p = ΣSwap zero xs f in omega (arith, ints)
ΣSwap (suc n) xs f =
    let p = ΣSwap n xs f in
    let q = Σ∈Add xs (λ x. Σ< n (f x)) (λ x. f x n) in
    omega (arith, ints)

pub ΣTelescopeDown : (n : ℕ) (f : ℕ → ℤ) → Σ< n (λ k. f k -ℤ f (suc k)) ≡ f 0 -ℤ f n
ΣTelescopeDown zero f = omega (arith, ints)
ΣTelescopeDown (suc n) f = let p = ΣTelescopeDown n f in omega (arith, ints)

-- ---- over rows and columns
abbrev pub grid : ℕ → ℕ → (ℕ → ℕ → ℤ) → ℤ
grid h w f = Σ< h (λ i. Σ< w (f i))

pub grid_ext : (h w : ℕ) (f g : ℕ → ℕ → ℤ) → ((i j : ℕ) → i < h → j < w → f i j ≡ g i j) → grid h w f ≡ grid h w g
grid_ext h w f g e = ΣExt h _ _ (λ i l. ΣExt w (f i) (g i) (λ j m. e i j l m))

pub grid_add : (h w : ℕ) (f g : ℕ → ℕ → ℤ) → grid h w (λ i j. f i j +ℤ g i j) ≡ grid h w f +ℤ grid h w g
grid_add h w f g = ΣExt h _ _ (λ i l. ΣAdd w (f i) (g i)) ∙ ΣAdd h (λ i. Σ< w (f i)) (λ i. Σ< w (g i))

pub grid_abs : (h w B : ℕ) (f : ℕ → ℕ → ℤ) → ((i j : ℕ) → i < h → j < w → nat_abs (f i j) ≤ B) → nat_abs (grid h w f) ≤ h * (w * B)
grid_abs h w B f e = ΣAbs h (w * B) _ (λ i l. ΣAbs w B (f i) (λ j m. e i j l m))
