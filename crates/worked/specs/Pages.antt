-- Small pages that were worked out by hand, in one list. Kernels are those of the tables in the code, and the inks are
-- chosen by the definitions that the contracts of levels and lists cite.
use Rattle.std.specs.Prelude.{List, [], ◌∷◌, map, ◌≡◌, refl, ℕ, ◌≤◌, ℤ, pos, neg_ℤ, length}
use Rattle.std.proofs.Common.{arith}
use Rattle.ink.specs.Inks.{Inks}
use Rattle.ink.specs.Levels.{grey_levels, colour_levels}
use Rattle.ink.specs.Lists.{ink_list}
use Rattle.kernel.specs.Published.{floyd, atkinson}
use Rattle.kernel.specs.Rules.{Shape, shape, tap}
use Rattle.ledger.specs.declared.order.Order.{Order}
use Rattle.ledger.specs.declared.order.Order.TheVariants.{Raster, Serpentine}
use Rattle.ledger.specs.Dots.{InkSet, Setup, Outcome, outcome}
use Rattle.tone.specs.declared.kinds.Grey.{Grey}
use Rattle.tone.specs.Kinds.{grey_made, grey_value}

-- an ink set as the ledger has it: tones by channel
abbrev pub inks_of : {T : Type 0} → Inks T → InkSet
inks_of m = record { count = m.number; tone = λ i c. m.value (m.tone i) c; choice = m.choice; spread = m.spread }

abbrev pub levels : InkSet
levels = inks_of (grey_levels 2 refl)

-- a list of grey inks
abbrev pub greys : (tones : List ℕ) → length (map (λ t. grey_made (t ∷ [])) tones) ≤ 256 → Inks Grey
greys tones few = ink_list 1 grey_value grey_made (map (λ t. grey_made (t ∷ [])) tones) few

-- A worked case: a page by its set-up and the samples that it takes, with what it comes to; or the number that an ink set
-- chooses, with what it should be.
pub data Case : Type 0 where
  page : Setup → List ℕ → Outcome → Case
  chosen : ℕ → ℕ → Case

-- a grey page of w by h cells: its samples, its inks in the order of the cells done, and its seven accounts
abbrev grey : ℕ → ℕ → Order → Shape → InkSet → List ℕ → List ℕ → List ℤ → Case
grey w h order kernel inks samples numbers sums =
    page (record { page = record { width = w; height = h; order = order }; kernel = kernel; channels = 1; inks = inks })
    samples (record { inks = numbers; accounts = sums ∷ [] })

abbrev less : ℕ → ℤ
less n = neg_ℤ (pos n)

abbrev pub cases : List Case
cases =
    grey 3 1 Raster floyd levels (100 ∷ 100 ∷ 100 ∷ []) (0 ∷ 1 ∷ 0 ∷ []) (pos 4800 ∷ pos 4080 ∷ pos 0 ∷ pos 724 ∷ pos 0 ∷ less 4 ∷ pos 0 ∷ [])
    -- the same after two cells
    ∷ grey 3 1 Raster floyd levels (100 ∷ 100 ∷ []) (0 ∷ 1 ∷ []) (pos 3200 ∷ pos 4080 ∷ less 772 ∷ less 108 ∷ pos 0 ∷ pos 0 ∷ pos 0 ∷ [])
    -- two rows in serpentine order: the second row's inks from the right are 0 1
    ∷ grey 2 2 Serpentine floyd levels (100 ∷ 100 ∷ 100 ∷ 100 ∷ []) (0 ∷ 1 ∷ 0 ∷ 1 ∷ []) (pos 6400 ∷ pos 8160 ∷ pos 0 ∷ less 1772 ∷ pos 0 ∷ pos 12 ∷ pos 0 ∷ [])
    -- and in raster order
    ∷ grey 2 2 Raster floyd levels (100 ∷ 100 ∷ 100 ∷ 100 ∷ []) (0 ∷ 1 ∷ 0 ∷ 0 ∷ []) (pos 6400 ∷ pos 4080 ∷ pos 0 ∷ pos 2298 ∷ pos 0 ∷ pos 22 ∷ pos 0 ∷ [])
    -- a kernel that does not pass the whole error on
    ∷ grey 1 1 Raster atkinson levels (100 ∷ []) (0 ∷ []) (pos 800 ∷ pos 0 ∷ pos 0 ∷ pos 600 ∷ pos 200 ∷ pos 0 ∷ pos 0 ∷ [])
    -- one ink of tone 0, and all of the error passed on: the third value is cut at 510
    ∷ grey 3 1 Raster (shape 1 (tap 0 (pos 1) 1 ∷ [])) (inks_of (greys (0 ∷ []) (omega arith))) (255 ∷ 255 ∷ 255 ∷ []) (0 ∷ 0 ∷ 0 ∷ [])
    (pos 765 ∷ pos 0 ∷ pos 0 ∷ pos 510 ∷ pos 0 ∷ pos 0 ∷ pos 255 ∷ [])
    -- levels
    ∷ chosen ((grey_levels 2 refl).choice (pos 127 ∷ [])) 0
    ∷ chosen ((grey_levels 2 refl).choice (pos 128 ∷ [])) 1
    ∷ chosen ((grey_levels 4 refl).choice (pos 42 ∷ [])) 0
    ∷ chosen ((grey_levels 4 refl).choice (pos 43 ∷ [])) 1
    ∷ chosen ((colour_levels 2 refl).choice (pos 200 ∷ pos 10 ∷ pos 128 ∷ [])) 5
    -- lists: a tie goes to the lower number
    ∷ chosen ((greys (10 ∷ 20 ∷ []) (omega arith)).choice (pos 15 ∷ [])) 0
    ∷ chosen ((greys (20 ∷ 10 ∷ []) (omega arith)).choice (pos 15 ∷ [])) 0
    -- a row of two, after its first cell and after both
    ∷ grey 2 1 Raster floyd levels (100 ∷ []) (0 ∷ []) (pos 1600 ∷ pos 0 ∷ pos 700 ∷ pos 900 ∷ pos 0 ∷ pos 0 ∷ pos 0 ∷ [])
    ∷ grey 2 1 Raster floyd levels (100 ∷ 100 ∷ []) (0 ∷ 1 ∷ []) (pos 3200 ∷ pos 4080 ∷ pos 0 ∷ less 892 ∷ pos 0 ∷ pos 12 ∷ pos 0 ∷ [])
    ∷ []

-- what a case comes to
pub data Found : Type 0 where
  outcome_is : Outcome → Found
  number_is : ℕ → Found

abbrev pub found : Case → Found
found (page S xs o) = outcome_is (outcome S (map (λ x. x ∷ []) xs))
found (chosen k e) = number_is k

abbrev pub expected : Case → Found
expected (page S xs o) = outcome_is o
expected (chosen k e) = number_is e

-- every case comes out as it was worked out
abbrev pub Worked : Type 0
Worked = map found cases ≡ map expected cases
