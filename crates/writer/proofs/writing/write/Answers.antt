use Rattle.std.proofs.Common.{rules}
use Rattle.writer.proofs.Back.{back_after}
use Rattle.writer.proofs.writing.write.Goals as goal

pub returns-else-is_black_and_white-clause-back : goal.returns-else-is_black_and_white-clause-back
returns-else-is_black_and_white-clause-back g c =
    let t = g.met.T.Tone in
    search (rules, back_after, t.some, t.few, t.byte, t.gives, g.met.S.Sheet.bounds)
