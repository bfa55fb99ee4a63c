use Rattle.ledger.proofs.Run.{fixed}
use Rattle.ledger.proofs.rules_fix.Goals as goal

pub returns : goal.returns
returns c = fixed
