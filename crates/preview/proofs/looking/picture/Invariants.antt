use Rattle.std.proofs.Common.{◌≡◌, string_bytes}
use Rattle.std.specs.List.{range_with_len, flat_map}
use Rattle.preview.specs.Marks.{row_text}
use Rattle.preview.proofs.looking.picture.Given as goal

abbrev pub invariant-loop-row : goal.invariant-loop-row
invariant-loop-row g l =
    string_bytes l.picture ≡ flat_map (row_text g.T.Tone.count g.T.Tone.value (g.S.Source.page l.source)) (range_with_len 0 l.row)
