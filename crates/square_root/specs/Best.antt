-- What "the nearest f32" says of a root: √x is nearer to it than to any other f32. Distances are compared by whole-number squares. Definitions only.
use Rattle.std.specs.Prelude.{ℕ, ◌+◌, ◌*◌, ◌/◌, ◌^◌, ◌<◌, false, pos, T, Float}
use Rattle.std.specs.Float.{fin, binary32}
use Rattle.std.specs.Float.Ieee.{fits, le}
use Rattle.std.specs.Float.Ieee.Scale.{finite}
use Rattle.std.specs.Float.Ieee.Positive.{positive, num, den}
use Rattle.square_root.specs.Root.{root_of}

-- +0
abbrev pub plus_zero : Float
plus_zero = fin false 0 (pos 0)

-- a finite value that is not negative, in units of the smallest f32, 2 ^ -149, and in units of its square, 2 ^ -298
abbrev pub grid : Float → ℕ
grid z = num z * 2 ^ 149 / den z

abbrev pub fine : Float → ℕ
fine x = num x * 2 ^ 298 / den x

-- √x is nearer to r than to z: where z is below r, √x is above their midpoint, and where z is above r, below it.
-- Twice the midpoint is the sum, and both sides are squared.
pub record Nearer (x r z : Float) : Type 0 where
  pub from_below : grid z < grid r → (grid z + grid r) * (grid z + grid r) < 4 * fine x
  pub from_above : grid r < grid z → 4 * fine x < (grid z + grid r) * (grid z + grid r)

-- Of an f32 x above 0, `root_of x` is an f32 above 0, and √x is nearer to it than to any other f32 z: `root_nearest` of proofs/Best.antt.
-- (A negative z is farther off than 0 is.) The distances are equal nowhere, so ties to even has nothing to decide.
abbrev pub NoneNearer : Type 0
NoneNearer = (x : Float) → T (fits binary32 x) → T (positive x)
    → T (fits binary32 (root_of x)) × T (positive (root_of x)) × ((z : Float) → T (fits binary32 z) → T (finite z) → T (le plus_zero z) → Nearer x (root_of x) z)
