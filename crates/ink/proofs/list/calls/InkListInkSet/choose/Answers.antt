use Rattle.std.proofs.Common.{◌≡◌, map, length, ap, ◌∙◌, arith, rules}
use Rattle.ink.specs.Lists.{nearest_of}
use Rattle.ink.specs.Nearness.{distance}
use Rattle.ink.specs.Values.{limited, values}
use Rattle.ink.proofs.Limited.{all_limited, same_values}
use Rattle.ink.proofs.ListNearest.{list_nearest, same_distance}
use Rattle.ink.proofs.list.calls.InkListInkSet.choose.Goals as goal

pub nearest_ink-requires : goal.nearest_ink-requires
nearest_ink-requires g c =
    let l : length c.args.wanted ≡ 3 = search rules in
    (rw c.limit_all-limited.ensures (all_limited c.args.wanted l), c.args.self.now.few)

pub returns : goal.returns
returns g c =
    let count = g.T.Tone.count in
    let value = g.T.Tone.value in
    let u = c.args.wanted in
    let ts = c.args.self.now.inks.now in
    let l : length u ≡ 3 = search rules in
    let same : distance count value (map limited u) ≡ distance count value (values count u) =
    λ i t. same_distance count value (map limited u) (values count u) t
    (λ k p. same_values count u k p (omega (arith, g.met.T.Tone.few))) i in
    let e : c.nearest_ink.result ≡ nearest_of (distance count value (values count u)) ts =
    c.nearest_ink.ensures
    ∙ (ap (λ v. nearest_of (distance count value v) ts) c.limit_all-limited.ensures ∙ ap (λ f. nearest_of f ts) same) in
    record {
      answer = e;
      nearest = rw e (list_nearest count value g.T.Tone.made ts c.args.self.now.few (values count u));
    }
