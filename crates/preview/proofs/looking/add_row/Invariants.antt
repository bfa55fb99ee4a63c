use Rattle.std.proofs.Common.{◌≡◌, ◌++◌, map, string_bytes}
use Rattle.std.specs.List.{range_with_len}
use Rattle.source.specs.Pages.{answer}
use Rattle.preview.specs.Marks.{mark_told}
use Rattle.preview.proofs.looking.add_row.Given as goal

abbrev pub invariant-loop-column : goal.invariant-loop-column
invariant-loop-column g l =
    string_bytes l.picture ≡ string_bytes l.initial.picture
    ++ map (λ c. mark_told g.T.Tone.count g.T.Tone.value (answer (g.S.Source.page l.source) l.row c)) (range_with_len 0 l.column)
