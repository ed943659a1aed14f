-- What the laws of edges and ratios ask of four directions. Definitions only.
use Rattle.std.specs.Prelude.{true, false, List, [], pos, slice_index_or, Float}
use Rattle.std.specs.Float.{nan, fin}
use Rattle.numeric.specs.Interval.{In}

-- A component that is finite and of magnitude at most 2 ^ 20. A star's is at most 1 (question 9), and so is a unit vector's but for its rounding.
abbrev pub Small : Float → Type 0
Small x = In (fin true 1 (pos 20)) (fin false 1 (pos 20)) x

-- A direction of three such components.
pub record Direction (a : List Float) : Type 0 where
  pub x : Small (slice_index_or a 0 nan)
  pub y : Small (slice_index_or a 1 nan)
  pub z : Small (slice_index_or a 2 nan)

-- Four such directions.
pub record Directions (v : List (List Float)) : Type 0 where
  pub first : Direction (slice_index_or v 0 [])
  pub second : Direction (slice_index_or v 1 [])
  pub third : Direction (slice_index_or v 2 [])
  pub fourth : Direction (slice_index_or v 3 [])
