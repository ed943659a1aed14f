-- One part of a pattern key, and the two ends of that part's range, as f32 products cut to whole numbers. Definitions only.
use Rattle.std.specs.Prelude.{ℕ, ◌<◌, ◌≤◌, false, T, pos, negsuc, Float}
use Rattle.std.specs.Float.{fin, binary32}
use Rattle.std.specs.Float.Ieee.{add, sub, mul, to_unsigned, of_int, le}
use Rattle.std.specs.Float.Ieee.Scale.{finite}
use Rattle.numeric.specs.Value.{zero32}
use Rattle.numeric.specs.MinMax.{larger, smaller}

-- The number of bins as an f32.
abbrev pub bins32 : ℕ → Float
bins32 B = of_int binary32 (pos B)

-- The f32 1.25, which is the most that question 4 lets the f32 product e * bins be.
abbrev pub five_quarters : Float
five_quarters = fin false 5 (negsuc 1)

-- The key part of a ratio: ratio times bins, cut to a whole number.
abbrev pub part_of : Float → ℕ → ℕ
part_of r B = to_unsigned 32 (mul binary32 r (bins32 B))

-- (ratio - e) times bins, not below 0, cut
abbrev pub low_of : Float → Float → ℕ → ℕ
low_of r e B = to_unsigned 32 (larger (mul binary32 (sub binary32 r e) (bins32 B)) zero32)

-- (ratio + e) times bins, not above bins, cut
abbrev pub high_of : Float → Float → ℕ → ℕ
high_of r e B = to_unsigned 32 (smaller (mul binary32 (add binary32 r e) (bins32 B)) (bins32 B))

-- A tolerance e and a number of bins B that question 4 lets pass. `at_most_four_values` and `image_part_in_range` ask for this.
pub record NarrowTolerance (e : Float) (B : ℕ) : Type 0 where
  pub e_finite : T (finite e)
  pub low : T (le zero32 e)
  pub some_bins : 0 < B
  pub few_bins : B ≤ 4096
  pub product : T (le (mul binary32 e (bins32 B)) five_quarters)
