use mathlib.Core.Path.{refl}
use Rattle.ledger.specs.Dots.{outcome}
use Rattle.worked.proofs.pages_come_out.Goals as goal

pub returns : goal.returns
unfolding outcome
returns c = refl
