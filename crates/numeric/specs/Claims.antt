-- What the search's proofs rest on, as statements. The files of proofs/ prove each one under the name given in its comment. Definitions only.
use Rattle.std.specs.Prelude.{◌≡◌, ℕ, ◌+◌, ◌<◌, ◌≤◌, T, Float}
use Rattle.std.specs.Float.{binary32}
use Rattle.std.specs.Float.Ieee.{div, mul, le, lt, fits, to_unsigned}
use Rattle.std.specs.Float.Ieee.Scale.{finite}
use Rattle.numeric.specs.Value.{zero32, one32}
use Rattle.numeric.specs.KeyPart.{bins32, five_quarters, part_of, low_of, high_of}

-- Cutting to a whole number of w bits keeps the order of all floats that are not NaN. Proved as `truncation_mono`.
abbrev pub TruncationMono : Type 0
TruncationMono = (w : ℕ) (x y : Float) → T (le x y) → to_unsigned w x ≤ to_unsigned w y

-- Five sorted edges, each divided by the sixth and largest, which is above 0, give ratios that rise within [0, 1]. Proved as `ratios_rise`.
abbrev pub RatiosRise : Type 0
RatiosRise = (e0 e1 e2 e3 e4 e5 : Float)
    → T (le zero32 e0) → T (le e0 e1) → T (le e1 e2) → T (le e2 e3) → T (le e3 e4) → T (le e4 e5) → T (finite e5) → T (lt zero32 e5)
    → T (le zero32 (div binary32 e0 e5))
    × T (le (div binary32 e0 e5) (div binary32 e1 e5))
    × T (le (div binary32 e1 e5) (div binary32 e2 e5))
    × T (le (div binary32 e2 e5) (div binary32 e3 e5))
    × T (le (div binary32 e3 e5) (div binary32 e4 e5))
    × T (le (div binary32 e4 e5) one32)

-- Each part of the image key lies in the range of its part. Proved as `image_part_in_range`.
abbrev pub ImagePartInRange : Type 0
ImagePartInRange = (r e : Float) (B : ℕ)
    → T (fits binary32 r) → T (le zero32 r) → T (le r one32) → T (finite e) → T (le zero32 e) → 0 < B → B ≤ 4096
    → (low_of r e B ≤ part_of r B) × (part_of r B ≤ high_of r e B)

-- A part's range has at most 4 values where the f32 product e * bins is at most 1.25. Proved as `at_most_four_values`.
abbrev pub AtMostFourValues : Type 0
AtMostFourValues = (r e : Float) (B : ℕ)
    → T (finite r) → T (finite e) → T (le zero32 r) → T (le r one32) → T (le zero32 e) → 0 < B → B ≤ 4096
    → T (le (mul binary32 e (bins32 B)) five_quarters)
    → high_of r e B ≤ low_of r e B + 3

-- The parts of ratios that rise never fall. Proved as `parts_never_fall`.
abbrev pub PartsNeverFall : Type 0
PartsNeverFall = (r r' : Float) (B : ℕ) → T (le r r') → 0 < B → B ≤ 4096 → part_of r B ≤ part_of r' B

-- "a ratio of 1 gives a part equal to bins". Proved as `part_of_one`.
abbrev pub PartOfOne : Type 0
PartOfOne = (B : ℕ) → 0 < B → B ≤ 4096 → part_of one32 B ≡ B
