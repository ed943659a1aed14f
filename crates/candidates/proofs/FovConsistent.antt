-- The test of the stored edge's field of view, with one law for each way out of `fov_consistent`. Assumes nothing.
use mathlib.Core.Path.{◌≡◌}
use mathlib.Core.Bool.{true, false}
use lib.Ieee.{Float, binary32, sub, mul, div, lt}
use Rattle.numeric.specs.Magnitude.{magnitude_of}
use Rattle.settings.specs.declared.tolerance.Tolerance.{Tolerance}
use Rattle.settings.specs.declared.tolerance.Tolerance.TheVariants.{Given, Absent}
use Rattle.candidates.specs.Comparisons.{fov_consistent}

module _ (error : Tolerance) (stored edge field : Float) where
  pub not_asked : error ≡ Absent → true ≡ fov_consistent error stored edge field
  unfolding fov_consistent
  not_asked h = rw h

  module _ (most : Float) (h : error ≡ Given most) (m : Float) (g : m ≡ magnitude_of (sub binary32 (mul binary32 (div binary32 stored edge) field) field)) where
    pub differs : lt most m ≡ true → false ≡ fov_consistent error stored edge field
    unfolding fov_consistent
    differs t = rw (h, ← g, t)

    pub does_not_differ : lt most m ≡ false → true ≡ fov_consistent error stored edge field
    unfolding fov_consistent
    does_not_differ t = rw (h, ← g, t)
