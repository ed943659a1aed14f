use Rattle.std.proofs.Common.{refl}
use Rattle.undivided_run.specs.Step.{start}
use Rattle.undivided_run.proofs.state.State.fresh.Goals as goal

pub returns : goal.returns
unfolding start
returns c = refl
