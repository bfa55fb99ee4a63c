use Rattle.ledger.proofs.Laws.{rectangles}
use Rattle.ledger.proofs.rectangles_bounded.Goals as goal

pub returns : goal.returns
returns c = rectangles
