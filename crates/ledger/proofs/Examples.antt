-- The definition of the dots computes: small pages that were worked out by hand.
use Rattle.std.proofs.Common.{◌≡◌, ℕ, cond, eqb, List, [], ◌∷◌, map, get_or, ℤ, pos, neg_ℤ, Some, None, refl}
use lib.Signed.{lt_z}
use Rattle.kernel.specs.Rules.{Shape, shape, tap}
use Rattle.kernel.specs.Published.{floyd, atkinson}
use Rattle.ledger.specs.declared.order.Order.{Order}
use Rattle.ledger.specs.declared.order.Order.TheVariants.{Raster, Serpentine}
use Rattle.ledger.specs.Dots.{InkSet, Setup, Tones, Outcome, outcome}

-- two inks, black and white, and one black ink
black_white : InkSet
black_white = record { count = 2; tone = λ i c. cond (eqb i 0) 0 255; choice = λ u. cond (lt_z (get_or u 0 (pos 0)) (pos 128)) 0 1; spread = Some 127 }

black : InkSet
black = record { count = 1; tone = λ i c. 0; choice = λ u. 0; spread = None }

grey : ℕ → ℕ → Order → Shape → InkSet → Setup
grey w h o K I = record { page = record { width = w; height = h; order = o }; kernel = K; channels = 1; inks = I }

came : List ℕ → List ℤ → Outcome
came inks sums = record { inks = inks; accounts = sums ∷ [] }

minus : ℕ → ℤ
minus n = neg_ℤ (pos n)

grey_row : List ℕ → Tones
grey_row xs = map (λ x. x ∷ []) xs

row_of_three : outcome (grey 3 1 Raster floyd black_white) (grey_row (100 ∷ 100 ∷ 100 ∷ []))
    ≡ came (0 ∷ 1 ∷ 0 ∷ []) (pos 4800 ∷ pos 4080 ∷ pos 0 ∷ pos 724 ∷ pos 0 ∷ minus 4 ∷ pos 0 ∷ [])
unfolding outcome grey black_white came minus grey_row
row_of_three = refl

two_of_three : outcome (grey 3 1 Raster floyd black_white) (grey_row (100 ∷ 100 ∷ []))
    ≡ came (0 ∷ 1 ∷ []) (pos 3200 ∷ pos 4080 ∷ minus 772 ∷ minus 108 ∷ pos 0 ∷ pos 0 ∷ pos 0 ∷ [])
unfolding outcome grey black_white came minus grey_row
two_of_three = refl

serpentine_rows : outcome (grey 2 2 Serpentine floyd black_white) (grey_row (100 ∷ 100 ∷ 100 ∷ 100 ∷ []))
    ≡ came (0 ∷ 1 ∷ 0 ∷ 1 ∷ []) (pos 6400 ∷ pos 8160 ∷ pos 0 ∷ minus 1772 ∷ pos 0 ∷ pos 12 ∷ pos 0 ∷ [])
unfolding outcome grey black_white came minus grey_row
serpentine_rows = refl

raster_rows : outcome (grey 2 2 Raster floyd black_white) (grey_row (100 ∷ 100 ∷ 100 ∷ 100 ∷ []))
    ≡ came (0 ∷ 1 ∷ 0 ∷ 0 ∷ []) (pos 6400 ∷ pos 4080 ∷ pos 0 ∷ pos 2298 ∷ pos 0 ∷ pos 22 ∷ pos 0 ∷ [])
unfolding outcome grey black_white came minus grey_row
raster_rows = refl

one_cell : outcome (grey 1 1 Raster atkinson black_white) (grey_row (100 ∷ []))
    ≡ came (0 ∷ []) (pos 800 ∷ pos 0 ∷ pos 0 ∷ pos 600 ∷ pos 200 ∷ pos 0 ∷ pos 0 ∷ [])
unfolding outcome grey black_white came minus grey_row
one_cell = refl

white_on_black : outcome (grey 3 1 Raster (shape 1 (tap 0 (pos 1) 1 ∷ [])) black) (grey_row (255 ∷ 255 ∷ 255 ∷ []))
    ≡ came (0 ∷ 0 ∷ 0 ∷ []) (pos 765 ∷ pos 0 ∷ pos 0 ∷ pos 510 ∷ pos 0 ∷ pos 0 ∷ pos 255 ∷ [])
unfolding outcome grey black came minus grey_row
white_on_black = refl
