use Rattle.std.proofs.Common.{◌<◌, sym, ap, ◌∙◌, arith}
use Rattle.preview.proofs.Firsts.{first_more, first_stops}
use Rattle.preview.proofs.Lacks.{lack_said, refusal_of}
use Rattle.preview.proofs.looking.missing_in_row.Goals as goal

pub returns-in-Err : goal.returns-in-Err
returns-in-Err g c =
    let p = g.S.Source.page c.args.source.now in
    let wide : c.loop-column.column < p.width = omega (arith, c.from-column-end.ensures, c.width.ensures) in
    let here = lack_said p c.args.row c.loop-column.column c.at.result c.requires wide c.at.ensures ∙ ap refusal_of c.in-Err.is in
    sym (first_stops _ c.loop-column.column p.width _ c.loop-column.invariant here wide)

pub loop-column-preserved : goal.loop-column-preserved
loop-column-preserved g c =
    let p = g.S.Source.page c.args.source.now in
    let wide : c.loop-column.column < p.width = omega (arith, c.from-column-end.ensures, c.width.ensures) in
    let here = lack_said p c.args.row c.loop-column.column c.at.result c.requires wide c.at.ensures ∙ ap refusal_of c.in_default.is in
    first_more _ c.loop-column.column c.loop-column.invariant here
