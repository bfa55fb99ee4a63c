use Rattle.std.proofs.Common.{◌≡◌, ◌++◌, string_bytes}
use Rattle.source.specs.Pages.{answer}
use Rattle.samples.specs.Texts.{joined, place_text}
use Rattle.samples.proofs.text.push_row.Given as goal

abbrev pub invariant-loop-column : goal.invariant-loop-column
invariant-loop-column g l =
    string_bytes l.text
    ≡ string_bytes l.initial.text
    ++ joined (λ k. place_text g.T.Tone.count g.T.Tone.value (answer (g.S.Source.page l.page) l.row k)) l.column
