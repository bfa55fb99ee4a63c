use Rattle.ledger.proofs.Run.{met}
use Rattle.ledger.proofs.rules_met.Goals as goal

pub returns : goal.returns
returns c = met
