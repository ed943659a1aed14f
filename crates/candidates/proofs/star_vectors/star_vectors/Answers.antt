use lib.ListN.{length}
use mathlib.Core.List.{List}
use mathlib.Core.Path.{◌≡◌, ap, ◌∙◌}
use native.Mathlib.Omega.{arith}
use Rattle.std.proofs.Common.{rules, tests}
use Rattle.std.specs.Array.{list_steps}
use Rattle.std.proofs.lemmas.Iterator.Adapters.{serves_from_places}
use Rattle.std.proofs.lemmas.Iterator.Consumers.{YieldsList-from_shown}
use Rattle.numeric.proofs.MapOf.{map_is}
use Rattle.pattern_entry.specs.declared.stars.StarIndex.{StarIndex}
use Rattle.candidates.specs.StarVectors.{star_of}
use Rattle.candidates.proofs.StarsInside.{inside_at, stars_map}
use Rattle.candidates.proofs.star_vectors.star_vectors.Goals as goal

pub map-requires : goal.map-requires
map-requires c =
    let a = c.args in
    let four : length a.four ≡ 4 = search rules in
    let road = YieldsList-from_shown list_steps (λ (i : StarIndex). i) (λ (s : List StarIndex). s) (λ s t h. ap length h) (λ s x t h. h) a.four in
    (search rules, (search rules, (search rules, serves_from_places road (λ x q h. search (rules, tests)) (λ x k h e. inside_at a.stars.now a.four c.requires four x k (omega arith) e))))

pub returns : goal.returns
returns c =
    let a = c.args in
    let four : length a.four ≡ 4 = search rules in
    map_is _ (star_of a.stars.now) a.four c.map.result _ 4 (record { 0 = 0 }) c.map.ensures.items four (λ x r q k. search (rules, tests)) ∙ stars_map a.stars.now a.four four
