-- The property that the edge ratios of a pattern have. Definitions only.
use Rattle.std.specs.Prelude.{T, List, slice_index_or, Float}
use Rattle.std.specs.Float.{nan, binary32}
use Rattle.std.specs.Float.Ieee.{le, fits}
use Rattle.numeric.specs.Value.{zero32, one32}
use Rattle.numeric.specs.Interval.{In}

-- The float r is a possible edge ratio: an f32 from 0 to 1.
pub record Ratio (r : Float) : Type 0 where
  pub representable : T (fits binary32 r)
  pub unit : In zero32 one32 r

-- Five edge ratios, each at most the next.
pub record Ratios (r : List Float) : Type 0 where
  pub first : Ratio (slice_index_or r 0 nan)
  pub second : Ratio (slice_index_or r 1 nan)
  pub third : Ratio (slice_index_or r 2 nan)
  pub fourth : Ratio (slice_index_or r 3 nan)
  pub fifth : Ratio (slice_index_or r 4 nan)
  pub rise : T (le (slice_index_or r 0 nan) (slice_index_or r 1 nan)) × T (le (slice_index_or r 1 nan) (slice_index_or r 2 nan)) × T (le (slice_index_or r 2 nan) (slice_index_or r 3 nan)) × T (le (slice_index_or r 3 nan) (slice_index_or r 4 nan))
