use mathlib.Core.Path.{◌∙◌}
use native.Mathlib.Omega.{arith}
use Rattle.search_cache.proofs.angles.Geometry.load.Goals as goal

pub returns : goal.returns
returns c =
    let p = c.put_directions.ensures in
    let f = c.clear_angles.ensures in
    record { directions = λ k l. f.1 k (omega (arith, c.requires)) ∙ p k l; cached = f.0 }
