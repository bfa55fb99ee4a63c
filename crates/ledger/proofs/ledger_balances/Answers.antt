use Rattle.ledger.proofs.Laws.{balance}
use Rattle.ledger.proofs.ledger_balances.Goals as goal

pub returns : goal.returns
returns c = balance
