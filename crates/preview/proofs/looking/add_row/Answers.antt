use Rattle.std.proofs.Common.{◌≡◌, ℕ, min, string_bytes, arith, lit<}
use Rattle.source.specs.Pages.{answer}
use Rattle.preview.specs.Marks.{mark_told}
use Rattle.preview.proofs.Pictures.{marks_more, row_ends}
use Rattle.preview.proofs.looking.add_row.Goals as goal

pub loop-column-preserved : goal.loop-column-preserved
loop-column-preserved g c =
    let f : ℕ → ℕ = λ k. mark_told g.T.Tone.count g.T.Tone.value (answer (g.S.Source.page c.args.source.now) c.args.row k) in
    let pushed = c.in_ok-push.ensures.bytes in
    let one = c.in_ok-push.ensures.ascii c.mark_at.ensures.ascii in
    let here = c.mark_at.ensures.here in
    let inv = c.loop-column.invariant in
    let more = marks_more f (string_bytes c.args.picture.now) c.loop-column.column in
    cc

pub returns : goal.returns
returns g c =
    let f : ℕ → ℕ = λ k. mark_told g.T.Tone.count g.T.Tone.value (answer (g.S.Source.page c.args.source.now) c.args.row k) in
    let pushed = c.in_ok-push-2.ensures.bytes in
    let one = c.in_ok-push-2.ensures.ascii (lit< tt) in
    let inv = c.loop-column.invariant in
    let end : c.loop-column.column ≡ min (g.S.Source.page c.args.source.now).width 72 = omega (arith, c.width.ensures) in
    let more = row_ends f (string_bytes c.args.picture.now) c.loop-column.column in
    cc
