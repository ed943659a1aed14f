use native.Mathlib.Numerals.{add-one}
use Rattle.undivided_run.proofs.state.Position.next_probe.Goals as goal

pub returns : goal.returns
returns c = rw add-one
