-- `preprocess::unit_vectors::coordinates_fit` meets its contract. Assumes nothing.
use mathlib.Core.Bool.{◌&&◌}
use mathlib.Core.Path.{◌∙◌}
use lib.Ieee.{le, neg}
use Rattle.std.proofs.Common.{rules, tests}
use Rattle.std.proofs.lemmas.Iterator.{YieldsList-from_slice}
use Rattle.std.proofs.lemmas.Iterator.Search.{all_from_yields_List}
use Rattle.preprocess.specs.Questions.{farthest}
use Rattle.preprocess.proofs.Coordinates.{coordinates_are}
use Rattle.preprocess.proofs.unit_vectors.coordinates_fit.Goals as goal

pub returns : goal.returns
returns c =
    all_from_yields_List (λ x. le (neg farthest) x && le x farthest) _ _ c.all.result c.all.ensures.ran (YieldsList-from_slice c.args.centroids.now cc) (λ x b q k. search (rules, tests))
    ∙ coordinates_are _
