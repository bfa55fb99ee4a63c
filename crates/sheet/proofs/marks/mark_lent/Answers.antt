use Rattle.std.proofs.Common.{◌≡◌, ◌*◌, cond, length, drop, rules}
use Rattle.sheet.specs.Limits.{fits}
use Rattle.sheet.specs.Marks.{marked_below}
use Rattle.sheet.specs.Memory.{blank, lent_memory}
use Rattle.sheet.proofs.Packed.{ended, sized}
use Rattle.sheet.proofs.marks.mark_lent.Goals as goal

pub returns : goal.returns
returns g c =
    let p = g.P.Packing.meaning in
    let laws = g.met.P.Packing.laws in
    let w = c.args.width in
    let h = c.args.height in
    let m = c.args.memory.now in
    let f = marked_below p.limit blank c.args.row c.args.column in
    let s = c.new-sheet.result in
    let t = c.mark.new.sheet in
    let new = c.new-sheet.ensures.means in
    let marked = c.mark.ensures.inks in
    let end : t.memory.now ≡ cond (fits w h (p.stride w * h) (length m)) (lent_memory p w h f (drop (p.stride w * h) m)) m =
    sized p laws (fits w h (p.stride w * h) (length m)) w h s.width s.height f t.memory.now m new.as_wide new.as_high
    (ended p laws _ _ m _ _ _ _ _ _ marked.width marked.height c.new-sheet.ensures.memory t.packed c.mark.ensures.keeps.1 marked.inks) in
    let names : s.memory.ghost_name ≡ t.memory.ghost_name = cc in
    search rules
