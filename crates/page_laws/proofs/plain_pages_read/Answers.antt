use Rattle.page_laws.proofs.Plain.{plain_page}
use Rattle.page_laws.proofs.plain_pages_read.Goals as goal

pub returns : goal.returns
returns g c = plain_page g.T.PageTone.letter g.T.Tone.count g.T.Tone.made
