use Rattle.std.proofs.Common.{◌≡◌, rules, tests, ◌∙◌}
use Rattle.std.specs.Option.{option_map_or}
use Rattle.plant.proofs.Pairs.{found-word}
use Rattle.plant.proofs.script.next_word.Goals as goal

pub returns : goal.returns
returns c =
    let e : c.map_or-word.result ≡ option_map_or (λ x. x.1) c.find.result 0 = search rules in
    let w = found-word _ _ c.args.station c.find.result _ _ c.find.ensures.ran (λ x b q k. search (rules, tests)) in
    record { word = e ∙ w.0; later = w.1 }
