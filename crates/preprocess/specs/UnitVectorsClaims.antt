-- What other crates rely on, written as statements. proofs/ has a proof of each one, under the name given after it. Definitions only.
use Rattle.std.specs.Prelude.{◌≡◌, ◌+◌, ◌*◌, ◌<◌, true, false, List, pos, negsuc, T, length, get_or, Float}
use Rattle.std.specs.Float.{nan, fin}
use Rattle.std.specs.Float.Ieee.{le, lt}
use Rattle.numeric.specs.Value.{zero32, one32}
use Rattle.numeric.specs.Interval.{In}
use Rattle.preprocess.specs.Questions.{coordinates_fit}
use Rattle.preprocess.specs.UnitVectors.{unit_of, vector_of}
use Rattle.preprocess.specs.declared.unit_vectors.CentroidIndex.{CentroidIndex}

-- A coordinate that question 2 lets through lies from -32,768 to 32,768.
abbrev pub Coordinate : Float → Type 0
Coordinate x = In (fin true 1 (pos 15)) (fin false 1 (pos 15)) x

-- A pixel scale that question 5 lets through is above 0 and at most 16.
pub record Scale (s : Float) : Type 0 where
  pub above : T (lt zero32 s)
  pub most : T (le s (fin false 1 (pos 4)))

-- The components of a unit vector are finite: x and y are of magnitude at most 2 ^ 20, and z lies from 2 ^ -20 to 1.
pub record UnitVector (v : List Float) : Type 0 where
  pub x : In (fin true 1 (pos 20)) (fin false 1 (pos 20)) (get_or v 0 nan)
  pub y : In (fin true 1 (pos 20)) (fin false 1 (pos 20)) (get_or v 1 nan)
  pub z : In (fin false 1 (negsuc 19)) one32 (get_or v 2 nan)

-- The unit vector of coordinates and a scale within these limits has such components: `unit_vectors`.
abbrev pub UnitVectors : Type 0
UnitVectors = (x y s : Float) → Coordinate x → Coordinate y → Scale s → UnitVector (unit_of x y s)

-- The unit vector of each centroid of a slice that question 2 lets through has such components: `centroid_vectors`.
abbrev pub CentroidVectors : Type 0
CentroidVectors = (c : List Float) (i : CentroidIndex) (s : Float)
    → coordinates_fit c ≡ true → 2 * i.0 + 1 < length c → Scale s → UnitVector (vector_of c i s)
