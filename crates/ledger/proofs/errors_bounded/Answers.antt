use Rattle.ledger.proofs.Laws.{errors}
use Rattle.ledger.proofs.errors_bounded.Goals as goal

pub returns : goal.returns
returns c = errors
