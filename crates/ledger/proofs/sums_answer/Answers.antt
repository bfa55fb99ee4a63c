use Rattle.ledger.proofs.Keeping.{sums_answer_lem}
use Rattle.ledger.proofs.sums_answer.Goals as goal

pub returns : goal.returns
returns c = sums_answer_lem
