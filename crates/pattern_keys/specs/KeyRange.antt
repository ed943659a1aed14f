-- A key in the middle of ranges. Definitions only.
use Rattle.std.specs.Prelude.{ℕ, ◌≤◌, List, get_or}
use Rattle.pattern_keys.specs.Codes.{Within}

-- Each part of the key c lies in its range, and none is below the one before it.
pub record Inside (c lo hi : List ℕ) : Type 0 where
  pub first : Within 0 c lo hi
  pub second : Within 1 c lo hi
  pub third : Within 2 c lo hi
  pub fourth : Within 3 c lo hi
  pub fifth : Within 4 c lo hi
  pub rises : (get_or c 0 0 ≤ get_or c 1 0) × (get_or c 1 0 ≤ get_or c 2 0) × (get_or c 2 0 ≤ get_or c 3 0) × (get_or c 3 0 ≤ get_or c 4 0)
