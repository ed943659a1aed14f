use Rattle.std.proofs.Common.{refl}
use Rattle.pattern.specs.Edges.{squared_distance}
use Rattle.pattern.proofs.edges.squared_distance.Goals as goal

pub returns : goal.returns
unfolding squared_distance
returns c = refl
