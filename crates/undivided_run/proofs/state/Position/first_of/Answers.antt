use mathlib.Core.Path.{refl}
use Rattle.undivided_run.proofs.state.Position.first_of.Goals as goal

pub returns : goal.returns
returns c = refl
