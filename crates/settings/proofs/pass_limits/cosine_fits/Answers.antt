use Rattle.settings.specs.PassLimits.{cosine_fits}
use lib.Ieee.{of_bits, neg}
use Rattle.settings.proofs.pass_limits.cosine_fits.Goals as goal

pub returns-then-x : goal.returns-then-x
unfolding cosine_fits of_bits neg
returns-then-x c = simp c.if-x.true

pub returns-else-x : goal.returns-else-x
unfolding cosine_fits of_bits neg
returns-else-x c = simp c.if-x.false
