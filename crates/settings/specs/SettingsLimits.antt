-- Question 4: the limits of the settings. Definitions only.
use Rattle.std.specs.Prelude.{ℕ, Bool, ◌&&◌, leb, Float}
use Rattle.std.specs.Float.{binary32}
use Rattle.std.specs.Float.Ieee.{mul, le}
use Rattle.std.specs.Float.Ieee.Scale.{finite}
use Rattle.numeric.specs.Value.{zero32, one32}
use Rattle.numeric.specs.KeyPart.{bins32, five_quarters}
use Rattle.settings.specs.Tolerance.{tolerance_of, option_fits}
use Rattle.settings.specs.declared.tolerance.Tolerance.{Tolerance}

-- Whether "e·bins at most 1.25" holds.
unfoldable pub narrow_fits : Tolerance → Float → ℕ → Bool
unfolding tolerance_of
narrow_fits own table bins = le (mul binary32 (tolerance_of own table bins) (bins32 bins)) five_quarters

-- Question 4: "Are bins 1 to 4,096, checking stars 0 to 64, the table's error from 0 to 1, the radius finite and not negative, present options
-- finite, and e·bins at most 1.25?"
unfoldable pub settings_fit : ℕ → ℕ → Float → Float → Tolerance → Tolerance → Bool
unfolding narrow_fits
settings_fit bins stars table radius own field =
    (leb 1 bins && leb bins 4096)
    && leb stars 64
    && (le zero32 table && le table one32)
    && (finite radius && le zero32 radius)
    && (option_fits own && option_fits field)
    && narrow_fits own table bins
