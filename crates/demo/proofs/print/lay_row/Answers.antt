use Rattle.std.proofs.Common.{rules, ◌<◌, ◌∙◌, arith}
use Rattle.sheet.specs.Laying.{Laid}
use Rattle.demo.proofs.Prints.{printed_more, laid_there, nearest_below}
use Rattle.demo.proofs.print.lay_row.Goals as goal

pub unwrap-requires : goal.unwrap-requires
unwrap-requires g c =
    let wide : c.loop-column.column < (g.S.Source.page c.args.source.now).width = search rules in
    let done = c.loop-column.invariant.1 in
    let low = nearest_below g.T.Tone.count g.T.Tone.value (g.I.InkSet.meaning c.args.inks.now)
    ((g.S.Source.page c.args.source.now).place c.args.row c.loop-column.column) in
    laid_there (g.L.Sheet.meaning c.loop-column.sheet) _ _ c.ink_for-number.result c.lay.result (omega (arith, c.requires.high, done.height))
    (omega (arith, wide, done.width)) (omega (arith, low, c.ink_for-number.ensures, c.loop-column.invariant.0, c.requires.room)) c.lay.ensures.answer

pub loop-column-preserved : goal.loop-column-preserved
loop-column-preserved g c =
    let e = c.unwrap.ensures in
    let a = c.lay.ensures.after in
    let wide : c.loop-column.column < (g.S.Source.page c.args.source.now).width = search rules in
    let laid : Laid (g.L.Sheet.meaning c.loop-column.sheet) (g.L.Sheet.meaning c.lay.new.self) c.args.row c.loop-column.column
    c.ink_for-number.result = rw e at a in
    let more = printed_more g.T.Tone.count g.T.Tone.value (g.I.InkSet.meaning c.args.inks.now) (g.S.Source.page c.args.source.now)
    (g.L.Sheet.meaning c.loop-column.sheet) (g.L.Sheet.meaning c.lay.new.self) c.args.row c.loop-column.column c.ink_for-number.result
    wide c.loop-column.invariant.1 laid c.ink_for-number.ensures in
    (laid.limit ∙ c.loop-column.invariant.0, more)
