-- `fov_sweep::pair_count` meets its contract. Assumes nothing.
use mathlib.Core.Path.{sym, ap}
use lib.ListN.{length}
use Rattle.fov_sweep.proofs.CountValues.{pair_two, pair_one}
use lib.Ieee.{of_bits}
use Rattle.fov_sweep.proofs.pair_count.Goals as goal

pub returns-then-estimate-offset : goal.returns-then-estimate-offset
unfolding of_bits
returns-then-estimate-offset c = sym (ap length (pair_two _ _ c.if-estimate-offset.true))

pub returns : goal.returns
unfolding of_bits
returns c = sym (ap length (pair_one _ _ c.if-estimate-offset.false))
