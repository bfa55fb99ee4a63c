-- The memories of all channels keep up with the run, as tones are taken one by one.
use Rattle.std.proofs.Common.{◌≡◌, ℕ, suc, ◌<◌, ◌≤◌, true, List, [], ◌∷◌, ◌++◌, length, get_or, pos, ◌+ℤ◌, ◌-ℤ◌, ◌*ℤ◌, sym, ap, ◌∙◌, ap₂, arith, length-append}
use lib.Seq.{get_or-append_seam}
use lib.Signed.{quot_z}
use Rattle.std.proofs.lemmas.List.{get_or_append_left}
use Rattle.std.proofs.lemmas.Bool.{le-leb}
use Rattle.kernel.specs.Rules.{Shape, rows_down, weights, valid}
use Rattle.ledger.specs.Page.{Page, number}
use Rattle.ledger.specs.Ledger.{Trace, in_hand, pending, limited, used, wanted, taken, laid, carried, edge, kernel, rounding, clipped}
use Rattle.ledger.specs.Dots.{Setup, Tones, samples, channel, ink_of, run}
use Rattle.ledger.specs.Follows.{Agree}
use Rattle.ledger.specs.Memory.{Memory, awaits, Holds, Stepped, sum_of, Empty, Keeps, next_values, AllStepped, MemoryKeepsUp, SumsAnswer}
use Rattle.ledger.proofs.Sums.{ΣMul}
use Rattle.ledger.proofs.Kernels.{sound}
use Rattle.ledger.proofs.Run.{each_ext, met, runs_agree}
use Rattle.ledger.proofs.Steps.{Same, holds_same, sum_held, holds_on}

-- ---- one tone more in the list
one_longer : (xs : Tones) (x : List ℕ) → length (xs ++ x ∷ []) ≡ suc (length xs)
one_longer xs x = length-append xs (x ∷ []) ∙ omega arith

samples_before : (xs : Tones) (x : List ℕ) (c k : ℕ) → k < length xs → samples xs c k ≡ samples (xs ++ x ∷ []) c k
samples_before xs x c k l = ap (λ t. pos (get_or t c 0)) (sym (get_or_append_left xs (x ∷ []) [] k l))

sample_last : (xs : Tones) (x : List ℕ) (c : ℕ) → samples (xs ++ x ∷ []) c (length xs) ≡ pos (get_or x c 0)
sample_last xs x c = ap (λ t. pos (get_or t c 0)) (get_or-append_seam xs x [] [])

module _ (S : Setup) (xs : Tones) (x : List ℕ) where
  agree : (k : ℕ) → k < length xs → Agree S (channel S xs) (channel S (xs ++ x ∷ [])) (ink_of S (samples xs)) (ink_of S (samples (xs ++ x ∷ []))) k
  agree = runs_agree S (samples xs) (samples (xs ++ x ∷ [])) (length xs) (λ c k l h. samples_before xs x c k h)

  same : (c : ℕ) → c < S.channels → Same (channel S xs c) (channel S (xs ++ x ∷ []) c) (length xs)
  unfolding run
  same c l = λ j h. let a = agree j h in (a.error c l, a.rest c l, samples_before xs x c j h, a.tone c l)

  sample_is : (c : ℕ) → pos (get_or x c 0) ≡ (channel S (xs ++ x ∷ []) c).sample (length xs)
  unfolding run
  sample_is c = sym (sample_last xs x c)

  module _ (w : 1 ≤ S.page.width) (hs : ℕ → Memory) (keeps : Keeps S xs hs) where
    held : (c : ℕ) → c < S.channels → Holds S.page S.kernel (channel S (xs ++ x ∷ []) c) (length xs) (hs c)
    held c l = holds_same S.page S.kernel (channel S xs c) (channel S (xs ++ x ∷ []) c) (length xs) (same c l) (hs c) (keeps c l)

    lays : ink_of S (samples (xs ++ x ∷ [])) (length xs) ≡ S.inks.choice (next_values S xs hs x)
    lays =
        (met S (samples (xs ++ x ∷ [])) (suc (length xs))).chosen (length xs) (omega arith)
        ∙ ap S.inks.choice (each_ext S.channels _ _ (λ c l.
        ap₂ (λ v a. limited (v +ℤ quot_z a (pos S.kernel.divisor))) (sym (sample_is c)) (sym (sum_held S.page S.kernel w (channel S (xs ++ x ∷ []) c) (length xs) (hs c) (held c l)))))

    module _ (ok : valid S.kernel ≡ true) (ink : ℕ) (hs' : ℕ → Memory) (is : ink ≡ S.inks.choice (next_values S xs hs x)) (done : AllStepped S xs hs x ink hs') where
      tone_is : (c : ℕ) → c < S.channels → pos (S.inks.tone ink c) ≡ (channel S (xs ++ x ∷ []) c).tone (length xs)
      tone_is c l = ap (λ i. pos (S.inks.tone i c)) (is ∙ sym lays) ∙ sym ((met S (samples (xs ++ x ∷ [])) (suc (length xs))).tones c (length xs) l (omega arith))

      goes_on : Keeps S (xs ++ x ∷ []) hs'
      goes_on c l =
          let k = sound S.kernel ok in
          let d = (met S (samples (xs ++ x ∷ [])) (suc (length xs))).diffused c l in
          let step : Stepped S.page S.kernel (length xs) ((channel S (xs ++ x ∷ []) c).sample (length xs)) ((channel S (xs ++ x ∷ []) c).tone (length xs)) (sum_of S.page (length xs) (hs c)) (hs c) (hs' c) =
          rw (← sample_is c, ← tone_is c l) (done c l) in
          rw (one_longer xs x)
          (holds_on S.page S.kernel rows_down w k.each_ahead k.each_reaches (omega arith) (channel S (xs ++ x ∷ []) c) (length xs)
          (d.rests (length xs) (omega arith)) (d.errors (length xs) (omega arith)) _ (hs c) (hs' c) (held c l) step)

nothing_waits : (p : Page) (K : Shape) (s : Trace) (m : ℕ) → awaits p K s 0 m ≡ pos 0
unfolding awaits pending
nothing_waits p K s m = rw (le-leb 0 m (omega arith))

starts : (p : Page) (K : Shape) (s : Trace) (h : Memory) → Empty h → Holds p K s 0 h
unfolding in_hand carried edge rounding
starts p K s h e = record {
  memory = λ r c l i j. e.none_waits _ ∙ sym (nothing_waits p K s (number p r c));
  hand_is = e.no_hand;
  samples_is = e.no_samples;
  tones_is = e.no_tones;
  errors_is = e.no_errors;
  carry_is = e.no_carry;
  off_page_is = e.none_off_page;
  row_ends_is = e.no_row_ends;
  cut_is = e.no_cut;
}

pub keeps_up : MemoryKeepsUp
keeps_up S w ok = record {
  starts = λ hs e c l. starts S.page S.kernel (channel S [] c) (hs c) (e c l);
  goes_on = λ xs hs x ink hs' keeps is done. goes_on S xs x w hs keeps ok ink hs' is done;
  lays = λ xs hs x keeps. lays S xs x w hs keeps;
  stays = λ xs x k l. sym (agree S xs x k l).ink;
}

-- ---- the accounts
pub sums_answer_lem : SumsAnswer
unfolding taken laid kernel clipped
sums_answer_lem p K s n h k = record {
  taken_is = ap (λ z. pos K.divisor *ℤ z) k.samples_is ∙ sym (ΣMul n (pos K.divisor) s.sample);
  laid_is = ap (λ z. pos K.divisor *ℤ z) k.tones_is ∙ sym (ΣMul n (pos K.divisor) s.tone);
  carried_is = k.carry_is;
  edge_is = k.off_page_is;
  kernel_is = ap (λ z. (pos K.divisor -ℤ pos (weights K.taps)) *ℤ z) k.errors_is ∙ sym (ΣMul n (pos K.divisor -ℤ pos (weights K.taps)) s.error);
  rounding_is = k.row_ends_is;
  clipped_is = ap (λ z. pos K.divisor *ℤ z) k.cut_is ∙ sym (ΣMul n (pos K.divisor) (λ j. wanted p K s j -ℤ used p K s j));
}
