use Rattle.ledger.proofs.Keeping.{keeps_up}
use Rattle.ledger.proofs.memory_keeps_up.Goals as goal

pub returns : goal.returns
returns c = keeps_up
