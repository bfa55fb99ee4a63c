use Rattle.std.proofs.Common.{◌≡◌, ◌*◌}
use Rattle.demo.specs.Nearest.{Printed}
use Rattle.demo.proofs.print.lay_nearest.Given as goal

abbrev pub invariant-loop-row : goal.invariant-loop-row
invariant-loop-row g l =
    ((g.L.Sheet.meaning l.sheet).limit ≡ (g.L.Sheet.meaning l.initial.sheet).limit)
    × Printed g.T.Tone.count g.T.Tone.value (g.I.InkSet.meaning l.inks) (g.S.Source.page l.source) (g.L.Sheet.meaning l.sheet)
    (l.row * (g.S.Source.page l.source).width)
