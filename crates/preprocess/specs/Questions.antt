-- Questions 1 and 2 of document 01. Definitions only.
use Rattle.std.specs.Prelude.{◌%◌, Bool, true, ◌&&◌, List, [], ◌∷◌, leb, eqb, length, Float}
use Rattle.std.specs.Float.Ieee.{le, of_bits}
use Rattle.std.specs.Float.{binary32}
use Rattle.std.specs.Float.Ieee.Scale.{finite}
use Rattle.numeric.specs.Magnitude.{magnitude_of}

-- Question 1: "Is the centroid slice of even length (pairs of f32, x then y), at most 512?"
unfoldable pub centroids_fit : List Float → Bool
centroids_fit c = eqb (length c % 2) 0 && leb (length c) 512

-- The f32 32,768, the largest magnitude that a coordinate may have.
abbrev pub farthest : Float
farthest = of_bits binary32 0x4700_0000

-- Whether one coordinate is "finite and of magnitude at most 32,768".
unfoldable pub coordinate_fits : Float → Bool
unfolding magnitude_of
coordinate_fits x = finite x && le (magnitude_of x) farthest

-- Question 2: "Is each coordinate finite and of magnitude at most 32,768?"
unfoldable pub coordinates_fit : List Float → Bool
unfolding coordinate_fits
coordinates_fit [] = true
coordinates_fit (x ∷ xs) = coordinate_fits x && coordinates_fit xs
