use Rattle.settings.specs.PassLimits.{scale_fits}
use lib.Ieee.{of_bits, neg}
use Rattle.settings.proofs.pass_limits.scale_fits.Goals as goal

pub returns-then-x : goal.returns-then-x
unfolding scale_fits of_bits neg
returns-then-x c = simp c.if-x.true

pub returns-else-x : goal.returns-else-x
unfolding scale_fits of_bits neg
returns-else-x c = simp c.if-x.false
