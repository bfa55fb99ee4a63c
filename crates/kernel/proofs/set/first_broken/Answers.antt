use Rattle.std.proofs.Common.{◌≡◌, Some, ◌∙◌, rules, tests}
use Rattle.std.proofs.lemmas.Iterator.{YieldsList-from_slice, YieldsList-from_zip}
use Rattle.std.proofs.lemmas.Iterator.Adapters.{YieldsList-from_once}
use Rattle.std.proofs.lemmas.Iterator.Consumers.{YieldsList-from_chain, YieldsList-from_copied}
use Rattle.std.proofs.lemmas.Iterator.Search.{position_from_yields_List}
use Rattle.kernel.specs.Rules.{origin, first_bad}
use Rattle.kernel.proofs.Neighbours.{broken, first_bad-position}
use Rattle.kernel.proofs.set.first_broken.Goals as goal

pub returns : goal.returns
returns c =
    let ts = c.args.taps.now in
    let told : c.position.result ≡ first_bad origin 0 ts =
    position_from_yields_List broken c.position.new.self _ c.position.result c.position.ensures.ran
    (YieldsList-from_zip
    (YieldsList-from_chain (YieldsList-from_once (Some origin) (cc)) (YieldsList-from_copied (YieldsList-from_slice ts (cc))) (cc) (cc))
    (YieldsList-from_slice ts (cc)))
    (λ x b q k. search (rules, tests))
    ∙ first_bad-position ts in
    search rules
