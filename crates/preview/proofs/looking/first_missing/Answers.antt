use Rattle.std.proofs.Common.{◌<◌, sym, ap, ◌∙◌, arith}
use Rattle.preview.specs.Missing.{heard}
use Rattle.preview.proofs.Firsts.{first_more, first_stops}
use Rattle.preview.proofs.looking.first_missing.Goals as goal

pub returns-in-Some : goal.returns-in-Some
returns-in-Some g c =
    let p = g.S.Source.page c.args.source.now in
    let high : c.loop-row.row < p.height = omega (arith, c.from-row-end.ensures, c.height.ensures) in
    let here = sym c.missing_in_row.ensures ∙ ap heard c.in-Some.is in
    sym (first_stops _ c.loop-row.row p.height _ c.loop-row.invariant here high)

pub loop-row-preserved : goal.loop-row-preserved
loop-row-preserved g c =
    let here = sym c.missing_in_row.ensures ∙ ap heard c.in_default.is in
    first_more _ c.loop-row.row c.loop-row.invariant here
