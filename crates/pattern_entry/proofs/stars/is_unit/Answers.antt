use mathlib.Core.Path.{◌∙◌}
use lib.Ieee.{of_bits, neg}
use Rattle.pattern_entry.proofs.UnitComponent.{unit_high, unit_low}
use Rattle.pattern_entry.proofs.stars.is_unit.Goals as goal

pub returns-then-x : goal.returns-then-x
unfolding of_bits neg
returns-then-x c = unit_high c.args.x c.if-x.true

pub returns-else-x : goal.returns-else-x
unfolding of_bits neg
returns-else-x c = c.if-x.false ∙ unit_low c.args.x c.if-x.false
