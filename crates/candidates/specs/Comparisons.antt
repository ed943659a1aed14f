-- Document 01, "One search": the comparisons of an entry with the image and with the pass. Definitions only.
use Rattle.std.specs.Prelude.{Bool, true, not, ◌&&◌, List, get_or, Float}
use Rattle.std.specs.Float.{nan, binary32}
use Rattle.std.specs.Float.Ieee.{add, sub, mul, div, lt}
use Rattle.numeric.specs.Value.{one32, quarter32}
use Rattle.numeric.specs.Magnitude.{magnitude_of}
use Rattle.settings.specs.declared.tolerance.Tolerance.{Tolerance}
use Rattle.settings.specs.declared.tolerance.Tolerance.TheVariants.{Given, Absent}

-- "With a field-of-view error, an entry whose stored edge / image edge · pass field differs from the pass field by more is passed over."
-- A difference that is a NaN isn't more.
unfoldable pub fov_consistent : Tolerance → Float → Float → Float → Bool
fov_consistent Absent stored edge field = true
fov_consistent (Given most) stored edge field = not (lt most (magnitude_of (sub binary32 (mul binary32 (div binary32 stored edge) field) field)))

-- strictly inside the tolerance about a ratio
unfoldable pub inside_one : Float → Float → Float → Bool
inside_one ratio e x = lt (sub binary32 ratio e) x && lt x (add binary32 ratio e)

-- "Then the ratios of the four stars are compared, strictly, with ratio − e and ratio + e"
unfoldable pub inside : List Float → Float → List Float → Bool
inside r e x =
    inside_one (get_or r 0 nan) e (get_or x 0 nan)
    && (inside_one (get_or r 1 nan) e (get_or x 1 nan)
    && (inside_one (get_or r 2 nan) e (get_or x 2 nan)
    && (inside_one (get_or r 3 nan) e (get_or x 3 nan)
    && inside_one (get_or r 4 nan) e (get_or x 4 nan))))

-- "The mark is set when |field/pass field − 1| > 0.25·`match_radius`."
unfoldable pub rebuild_of : Float → Float → Float → Bool
rebuild_of measured field radius = lt (mul binary32 quarter32 radius) (magnitude_of (sub binary32 (div binary32 measured field) one32))
