use Rattle.ledger.proofs.Laws.{aims}
use Rattle.ledger.proofs.taps_aim_later.Goals as goal

pub returns : goal.returns
returns c = aims
