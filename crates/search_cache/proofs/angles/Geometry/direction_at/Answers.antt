use mathlib.Core.Path.{refl}
use Rattle.search_cache.specs.AngleArray.{direction_at}
use Rattle.search_cache.proofs.angles.Geometry.direction_at.Goals as goal

pub returns : goal.returns
unfolding direction_at
returns c = refl
