use mathlib.Core.Path.{refl}
use Rattle.thinning.specs.Separation.{dot}
use Rattle.thinning.proofs.separation.dot.Goals as goal

pub returns : goal.returns
unfolding dot
returns c = refl
