-- What an array of eight directions that are worked out together holds. Definitions only.
use Rattle.std.specs.Prelude.{◌≡◌, ℕ, ◌+◌, ◌<◌, List, [], length, get_or, Float}

-- The first m of the eight directions are those of the spots from place `from` on, as far as the n places of the brightness list go.
pub record Ahead (spot : ℕ → List Float) (n from m : ℕ) (ahead : List (List Float)) : Type 0 where
  pub are : (j : ℕ) → j < m → from + j < n → get_or ahead j [] ≡ spot (from + j)
  pub long : length ahead ≡ 8
