-- The definition of the dots: from the tones taken, the ink of every cell, its errors and its rests.
use Rattle.std.specs.Prelude.{ℕ, zero, suc, List, [], ◌∷◌, ◌++◌, map, length, get_or, ℤ, pos, ◌-ℤ◌, Option, slice_index, slice_index_or}
use Rattle.std.specs.List.{range_with_len}
use Rattle.kernel.specs.Rules.{Shape}
use Rattle.ledger.specs.Page.{Page, column, number, cell_at, ahead, aimed}
use Rattle.ledger.specs.Ledger.{Trace, sent, pending, in_hand, remainder, used, taken, laid, carried, edge, kernel, rounding, clipped}

-- What an ink set means: how many inks it has, the tone of an ink by channel, the ink chosen for the values u of all channels, and its spread if it has one.
pub record InkSet : Type 0 where
  pub count : ℕ
  pub tone : ℕ → ℕ → ℕ
  pub choice : List ℤ → ℕ
  pub spread : Option ℕ

-- all that a run depends on besides the tones it takes
pub record Setup : Type 0 where
  pub page : Page
  pub kernel : Shape
  pub channels : ℕ
  pub inks : InkSet

-- A cell done: the number of its ink, and its error and rest in each channel.
pub record Dot : Type 0 where
  pub ink : ℕ
  pub errors : List ℤ
  pub rests : List ℤ

abbrev pub blank : Dot
blank = record { ink = 0; errors = []; rests = [] }

-- f 0 .. f (n - 1)
abbrev pub each : ℕ → (ℕ → ℤ) → List ℤ
each n f = map f (range_with_len 0 n)

-- u of cell k in every channel, where s has the channels
abbrev pub values : Setup → (ℕ → Trace) → ℕ → List ℤ
values S s k = each S.channels (λ c. used S.page S.kernel (s c) k)

-- x has the samples taken, by channel and then by the number of the cell
module _ (S : Setup) (x : ℕ → ℕ → ℤ) where
  -- channel c, as far as cells are done
  abbrev pub so_far : List Dot → ℕ → Trace
  so_far done c = record {
    sample = x c;
    tone = λ k. pos (S.inks.tone (get_or done k blank).ink c);
    error = λ k. slice_index_or (get_or done k blank).errors c (pos 0);
    rest = λ k. slice_index_or (get_or done k blank).rests c (pos 0);
  }

  -- the cell of number k, after those before it
  abbrev pub next : List Dot → ℕ → Dot
  next done k =
      let u = values S (so_far done) k in
      let ink = S.inks.choice u in
      record {
        ink = ink;
        errors = each S.channels (λ c. slice_index_or u c (pos 0) -ℤ pos (S.inks.tone ink c));
        rests = each S.channels (λ c. remainder S.page S.kernel (so_far done c) k);
      }

  -- the first n cells
  unfoldable pub dots : ℕ → List Dot
  dots zero = []
  dots (suc n) = let done = dots n in done ++ next done n ∷ []

  unfoldable pub ink_of : ℕ → ℕ
  ink_of k = (next (dots k) k).ink

  -- channel c of the run
  unfoldable pub run : ℕ → Trace
  run c = record {
    sample = x c;
    tone = λ k. pos (S.inks.tone (ink_of k) c);
    error = λ k. slice_index_or (next (dots k) k).errors c (pos 0);
    rest = λ k. slice_index_or (next (dots k) k).rests c (pos 0);
  }

-- The tones taken by the cells done, each a list of values by channel.
abbrev pub Tones : Type 0
Tones = List (List ℕ)

abbrev pub value : Tones → ℕ → ℕ → ℕ
value xs c k = slice_index (slice_index_or xs k []) c

abbrev pub samples : Tones → ℕ → ℕ → ℤ
samples xs c k = pos (value xs c k)

-- channel c of the run that takes these tones
abbrev pub channel : Setup → Tones → ℕ → Trace
channel S xs c = run S (samples xs) c

-- the accounts of a channel, 0 to 6, after n cells
abbrev pub accounts : Page → Shape → Trace → ℕ → List ℤ
accounts p K s n =
    taken p K s n ∷ laid p K s n ∷ carried p K s n ∷ edge p K s n ∷ kernel p K s n ∷ rounding p K s n ∷ clipped p K s n ∷ []

-- what a run has come to: the inks of the cells done, in their order, and the accounts of each channel
pub record Outcome : Type 0 where
  pub inks : List ℕ
  pub accounts : List (List ℤ)

unfoldable pub outcome : Setup → Tones → Outcome
unfolding column number cell_at ahead aimed sent pending in_hand taken laid carried edge kernel rounding clipped dots ink_of run
outcome S xs = record {
  inks = map (λ d. d.ink) (dots S (samples xs) (length xs));
  accounts = map (λ c. accounts S.page S.kernel (channel S xs c) (length xs)) (range_with_len 0 S.channels);
}
