use Rattle.ledger.proofs.Laws.{guarantee}
use Rattle.ledger.proofs.runs_guaranteed.Goals as goal

pub returns : goal.returns
returns c = guarantee
