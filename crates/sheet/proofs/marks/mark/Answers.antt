use Rattle.sheet.proofs.Trying.{marks, tried}
use Rattle.sheet.proofs.marks.mark.Goals as goal

pub returns-clause-inks : goal.returns-clause-inks
returns-clause-inks g c =
    let meaning = g.S.Sheet.meaning in
    marks _ _ _ _ _ (tried meaning _ _ _ _ 1 _ c.lay.ensures.answer c.lay.ensures.after) (tried meaning _ _ _ _ 1 _ c.lay-2.ensures.answer c.lay-2.ensures.after)
