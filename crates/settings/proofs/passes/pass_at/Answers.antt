use mathlib.Core.Path.{refl}
use Rattle.settings.specs.Passes.{pass_at}
use Rattle.settings.proofs.passes.pass_at.Goals as goal

pub returns : goal.returns
unfolding pass_at
returns c = refl
