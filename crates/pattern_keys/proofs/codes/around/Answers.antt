use mathlib.Core.Path.{refl}
use Rattle.pattern_keys.specs.CodeOrder.{ones, twos}
use Rattle.pattern_keys.proofs.codes.around.Goals as goal

pub returns : goal.returns
unfolding ones twos
returns c = refl
