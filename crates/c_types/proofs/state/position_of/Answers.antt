use mathlib.Core.Path.{refl}
use Rattle.c_types.specs.State.{position_of}
use Rattle.c_types.proofs.state.position_of.Goals as goal

pub returns : goal.returns
unfolding position_of
returns c = refl
