use mathlib.Core.Path.{refl}
use Rattle.c_types.specs.State.{unknown}
use Rattle.c_types.proofs.state.unknown_state.Goals as goal

pub returns : goal.returns
unfolding unknown
returns c = refl
