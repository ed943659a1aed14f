-- `settings::tolerance::max_error` meets its contract. Assumes nothing.
use mathlib.Core.Path.{◌∙◌, ap₂}
use Rattle.numeric.specs.MinMax.{smaller}
use lib.Dec.{le→leb, lit≤}
use native.Mathlib.Nat.{le_trans}
use lib.Ieee.{in_float}
use Rattle.settings.specs.Tolerance.{tolerance_of}
use Rattle.settings.proofs.tolerance.max_error.Goals as goal

pub int_to_float-bins : goal.int_to_float-bins
unfolding in_float
int_to_float-bins c = le→leb _ 16777216 (le_trans c.requires (lit≤ tt))

pub returns : goal.returns
unfolding tolerance_of
returns c = c.smaller.ensures ∙ ap₂ smaller c.wanted.ensures c.larger-ceiling.ensures
