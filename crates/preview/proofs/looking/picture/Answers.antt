use Rattle.std.proofs.Common.{ℕ, List}
use Rattle.preview.specs.Marks.{row_text}
use Rattle.preview.proofs.Pictures.{rows_more}
use Rattle.preview.proofs.looking.picture.Goals as goal

pub loop-row-preserved : goal.loop-row-preserved
loop-row-preserved g c =
    let f : ℕ → List ℕ = row_text g.T.Tone.count g.T.Tone.value (g.S.Source.page c.args.source.now) in
    let added = c.in_ok-add_row.ensures in
    let inv = c.loop-row.invariant in
    let more = rows_more f c.loop-row.row in
    cc
