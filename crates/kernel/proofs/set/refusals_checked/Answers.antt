use Rattle.kernel.proofs.Refusals.{refused, first_told}
use Rattle.kernel.proofs.set.refusals_checked.Goals as goal

pub returns : goal.returns
returns c = (refused, first_told)
