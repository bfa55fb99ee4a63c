use Rattle.std.proofs.Common.{rules}
use Rattle.demo.proofs.Prints.{taken_page}
use Rattle.demo.proofs.print.print_into.Goals as goal

pub returns-clause-page : goal.returns-clause-page
returns-clause-page g c =
    record { sheet = _; bounds = search rules; all = c.lay_nearest.ensures; page = taken_page _ _ _ _ c.in_ok-write.ensures.page }
