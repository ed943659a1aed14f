-- A field of view between 0 and pi is finite, so question 5's test of a field and the test of the measured field agree. Assumes nothing.
use mathlib.Core.Path.{◌≡◌, refl}
use mathlib.Core.Bool.{true, false}
use lib.Ieee.{Float, nan, inf, fin, of_bits, lt}
use Rattle.settings.specs.PassLimits.{field_fits}
use Rattle.candidates.specs.EntryTests.{field_valid}

pub field_fits_valid : (x : Float) → field_fits x ≡ field_valid x
unfolding field_fits field_valid of_bits lt
field_fits_valid nan = refl
field_fits_valid (inf true) = refl
field_fits_valid (inf false) = refl
field_fits_valid (fin s m e) = refl
