use Rattle.ledger.proofs.Sizes.{sizes}
use Rattle.ledger.proofs.numbers_fit.Goals as goal

pub returns : goal.returns
returns c = sizes
