use Rattle.std.proofs.Common.{arith}
use Rattle.std.proofs.lemmas.Grind.{common_steps}
use Rattle.fov_sweep.specs.Sweep.{sweep_fits}
use lib.Ieee.{of_bits}
use Rattle.fov_sweep.proofs.sweep_fits.Goals as goal

pub returns-then-step : goal.returns-then-step
unfolding sweep_fits of_bits
returns-then-step c = grind (arith, common_steps)

pub returns-else-step : goal.returns-else-step
unfolding sweep_fits of_bits
returns-else-step c = grind (arith, common_steps)
