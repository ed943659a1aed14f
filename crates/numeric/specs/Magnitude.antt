-- The magnitude of a float. Definitions only.
use Rattle.std.specs.Prelude.{zero, suc, false, Float}
use Rattle.std.specs.Float.{nan, inf, fin}
use Rattle.numeric.specs.Value.{zero32}

-- The float x without its sign. Either zero gives +0.
unfoldable pub magnitude_of : Float → Float
magnitude_of nan = nan
magnitude_of (inf s) = inf false
magnitude_of (fin s zero e) = zero32
magnitude_of (fin s (suc m) e) = fin false (suc m) e
