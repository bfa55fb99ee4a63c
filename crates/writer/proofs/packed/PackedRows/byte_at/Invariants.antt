use Rattle.std.proofs.Common.{◌≡◌, ◌*◌}
use Rattle.sheet.specs.Memory.{bit_of_place}
use Rattle.writer.specs.Pages.{counted}
use Rattle.writer.proofs.Bits.{leading}
use Rattle.writer.proofs.packed.PackedRows.byte_at.Given as goal

abbrev pub invariant-loop-k : goal.invariant-loop-k
invariant-loop-k g l =
    l.byte
    ≡ leading (bit_of_place (g.S.Sheet.meaning l.self.0.sheet.now).width (counted g.T.Tone.count g.T.Tone.value (g.I.InkSet.meaning l.self.0.inks.now) (g.S.Sheet.meaning l.self.0.sheet.now)) l.row) (8 * l.j) l.k
