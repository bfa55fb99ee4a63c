use Rattle.std.proofs.Common.{◌≡◌, rules}
use Rattle.std.proofs.lemmas.List.{set-get_or}
use Rattle.ink.specs.LevelRules.{levels_choice}
use Rattle.ink.specs.Values.{values}
use Rattle.ink.proofs.LevelNearest.{levels_nearest}
use Rattle.ink.proofs.levels.calls.LevelsInkSet.choose.Goals as goal

pub returns : goal.returns
returns g c =
    let s = c.args.self.now in
    let u = values g.T.Tone.count c.args.wanted in
    let e : c.nearest_levels.result ≡ levels_choice s.steps g.T.Tone.count u = search (rules, set-get_or) in
    record { answer = e; nearest = rw e (levels_nearest s.sound s.steps s.even u) }
