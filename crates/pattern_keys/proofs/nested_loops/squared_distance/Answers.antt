use Rattle.std.proofs.Common.{arith}
use Rattle.pattern_keys.specs.Keys.{squared_distance}
use Rattle.pattern_keys.proofs.nested_loops.squared_distance.Goals as goal

pub returns : goal.returns
unfolding squared_distance
returns c = (cc, omega arith)
