-- `settings::settings_limits::narrow` meets its contract. Assumes nothing.
use lib.Dec.{le→leb, lit≤}
use native.Mathlib.Nat.{le_trans}
use lib.Ieee.{in_float, of_bits}
use Rattle.settings.specs.SettingsLimits.{narrow_fits}
use Rattle.settings.proofs.settings_limits.narrow.Goals as goal

pub int_to_float-result : goal.int_to_float-result
unfolding in_float
int_to_float-result c = le→leb _ 16777216 (le_trans c.requires (lit≤ tt))

pub returns : goal.returns
unfolding narrow_fits of_bits
returns c = rw c.max_error.ensures
