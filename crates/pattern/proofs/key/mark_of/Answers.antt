use Rattle.std.proofs.Common.{refl}
use Rattle.pattern.specs.Key.{mark_of}
use Rattle.pattern.proofs.key.mark_of.Goals as goal

pub returns : goal.returns
unfolding mark_of
returns c = refl
