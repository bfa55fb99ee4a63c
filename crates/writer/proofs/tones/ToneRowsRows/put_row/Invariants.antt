use Rattle.std.proofs.Common.{◌≡◌, ◌*◌, take}
use Rattle.writer.specs.Pages.{pieces, tone_bytes}
use Rattle.writer.proofs.tones.ToneRowsRows.put_row.Given as goal

abbrev pub invariant-loop-column : goal.invariant-loop-column
invariant-loop-column g l =
    take (l.column * l.n) l.out
    ≡ pieces (tone_bytes g.T.Tone.count g.T.Tone.value (g.I.InkSet.meaning l.self.0.inks.now) (g.S.Sheet.meaning l.self.0.sheet.now) l.row) l.column
