-- What laying leaves, whether it was refused or not.
use Rattle.std.proofs.Common.{◌≡◌, ℕ, ◌<◌, cond, ltb, Ok, Err, Result, ap, ◌∙◌, arith}
use Rattle.std.proofs.lemmas.Bool.Decides.{nat_tests}
use Rattle.sheet.specs.declared.fault.SheetFault.{SheetFault}
use Rattle.sheet.specs.Laying.{After, laying, numbered, put}
use Rattle.sheet.specs.Marks.{Marked}
use Rattle.sheet.specs.Meaning.{SheetMeaning}

-- a number that the sheet takes is laid, where its place is on the sheet
pub record Tried (m n : SheetMeaning) (row column number : ℕ) : Type 0 where
  pub width : n.width ≡ m.width
  pub height : n.height ≡ m.height
  pub limit : n.limit ≡ m.limit
  pub inks : (i j : ℕ) → i < m.height → j < m.width
      → n.ink i j ≡ cond (ltb number m.limit) (put m.ink row column number i j) (m.ink i j)

pub tried : {S : Type 0} (meaning : S → SheetMeaning) (s t : S) (row column number : ℕ) (r : Result (Unit {0}) SheetFault)
    → numbered r ≡ laying (meaning s) row column number → After meaning s t row column number r
    → Tried (meaning s) (meaning t) row column number
tried meaning s t row column number (Ok tt) e laid = record {
  width = laid.width;
  height = laid.height;
  limit = laid.limit;
  inks = λ i j p q. laid.inks i j p q ∙ grind (arith, nat_tests, e);
}
tried meaning s t row column number (Err f) e same = record {
  width = ap (λ x. (meaning x).width) same;
  height = ap (λ x. (meaning x).height) same;
  limit = ap (λ x. (meaning x).limit) same;
  inks = λ i j p q. ap (λ x. (meaning x).ink i j) same ∙ grind (arith, nat_tests, e);
}

-- two places marked one after the other
pub marks : (k m n : SheetMeaning) (row column : ℕ) → Tried k m row column 1 → Tried m n column row 1 → Marked k n row column
marks k m n row column a b = record {
  width = b.width ∙ a.width;
  height = b.height ∙ a.height;
  limit = b.limit ∙ a.limit;
  inks = λ i j p q. grind (arith, nat_tests, a.height, a.width, a.limit, a.inks i j p q, b.inks i j);
}
