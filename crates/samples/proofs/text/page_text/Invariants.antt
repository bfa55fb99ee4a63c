use Rattle.std.proofs.Common.{◌≡◌, string_bytes}
use Rattle.samples.specs.Texts.{joined, row_text}
use Rattle.samples.proofs.text.page_text.Given as goal

abbrev pub invariant-loop-row : goal.invariant-loop-row
invariant-loop-row g l = string_bytes l.text ≡ joined (row_text g.T.Tone.count g.T.Tone.value (g.S.Source.page l.page)) l.row
