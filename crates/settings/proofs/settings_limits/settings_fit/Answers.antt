use Rattle.std.proofs.Common.{◌≡◌, ◌&&◌, leb, arith}
use Rattle.std.proofs.lemmas.Grind.{common_steps}
use lib.Ieee.{le, of_bits}
use Rattle.numeric.specs.Value.{zero32, one32}
use Rattle.settings.specs.SettingsLimits.{settings_fit}
use Rattle.settings.proofs.settings_limits.settings_fit.Goals as goal

pub returns-then-option_fits-2 : goal.returns-then-option_fits-2
unfolding settings_fit of_bits
returns-then-option_fits-2 c = grind (arith, common_steps)

pub returns-else-option_fits-2 : goal.returns-else-option_fits-2
unfolding settings_fit of_bits
returns-else-option_fits-2 c =
    let a = c.args in
    let five : c.if-table.value ≡ (leb 1 a.bins && leb a.bins 4096) && leb a.stars 64 && (le zero32 a.table && le a.table one32) = grind (arith, common_steps) in
    grind (arith, common_steps)
