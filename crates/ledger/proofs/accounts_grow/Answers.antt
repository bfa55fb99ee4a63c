use Rattle.ledger.proofs.Laws.{one_more}
use Rattle.ledger.proofs.accounts_grow.Goals as goal

pub returns : goal.returns
returns c = one_more
