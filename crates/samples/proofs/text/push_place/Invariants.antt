use Rattle.std.proofs.Common.{◌≡◌, ◌++◌, string_bytes}
use Rattle.source.specs.Faults.{said}
use Rattle.samples.specs.Texts.{joined, sample_text}
use Rattle.samples.proofs.text.push_place.Given as goal

abbrev pub invariant-loop-channel : goal.invariant-loop-channel
invariant-loop-channel g l =
    string_bytes l.text ≡ string_bytes l.initial.text ++ joined (sample_text g.T.Tone.count g.T.Tone.value (said l.answer)) l.channel
