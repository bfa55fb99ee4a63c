use Rattle.std.proofs.Common.{◌≡◌, ℕ, ◌<◌, get_or}
use Rattle.sheet.specs.Memory.{byte_of_row}
use Rattle.writer.specs.Pages.{counted}
use Rattle.writer.proofs.packed.PackedRowsRows.put_row.Given as goal

abbrev pub invariant-loop-j : goal.invariant-loop-j
invariant-loop-j g l =
    let s = g.S.Sheet.meaning l.self.0.sheet.now in
    (k : ℕ) → k < l.j → get_or l.out k 0 ≡ byte_of_row s.width (counted g.T.Tone.count g.T.Tone.value (g.I.InkSet.meaning l.self.0.inks.now) s) l.row k
