-- What the two kinds of tone of the tests mean.
use Rattle.std.specs.Prelude.{ℕ, zero, suc, List, slice_index}
use Rattle.tone.specs.Kinds.{cut, cut_fits}
use Rattle.page_tests.specs.declared.kinds.Marked.{Marked}
use Rattle.page_tests.specs.declared.kinds.Pair.{Pair}

abbrev pub pair_value : Pair → ℕ → ℕ
pair_value t zero = t.first
pair_value t (suc zero) = t.second
pair_value t (suc (suc i)) = 0

abbrev pub pair_made : List ℕ → Pair
pair_made v = record {
  first = cut (slice_index v 0);
  second = cut (slice_index v 1);
  bytes = (cut_fits (slice_index v 0), cut_fits (slice_index v 1));
}

abbrev pub marked_value : Marked → ℕ → ℕ
marked_value t zero = t.light
marked_value t (suc i) = 0

abbrev pub marked_made : List ℕ → Marked
marked_made v = record { light = cut (slice_index v 0); mark = 0; byte = cut_fits (slice_index v 0) }
