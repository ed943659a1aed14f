use Rattle.search_cache.proofs.AngleArray.{Put}
use Rattle.search_cache.proofs.angles.Geometry.put_directions.Given as goal

abbrev pub invariant-loop-k : goal.invariant-loop-k
invariant-loop-k l = Put l.dirs l.k l.self.numbers
