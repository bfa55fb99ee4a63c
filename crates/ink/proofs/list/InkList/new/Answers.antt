use Rattle.std.proofs.Common.{◌≡◌, length, take, ap, ◌∙◌, arith}
use Rattle.std.specs.Prelude.{min}
use Rattle.std.proofs.lemmas.List.{take_min}
use Rattle.ink.proofs.list.InkList.new.Goals as goal

pub returns : goal.returns
returns g c =
    let shown : c.min.result ≡ min 256 (length c.args.inks.now) = omega (arith, c.min.ensures) in
    ap (λ n. take n c.args.inks.now) shown ∙ take_min 256 c.args.inks.now
