-- The constants of the formula are the f32 nearest to the decimals of document 01: `round` is to nearest, ties to even. Assumes nothing.
use mathlib.Core.Path.{◌≡◌, refl}
use Prim.Native.Nat.{◌^◌}
use mathlib.Core.Bool.{true, false}
use lib.Ieee.{binary32, round, of_bits}
use Rattle.numeric.specs.Value.{half32}
use Rattle.arc.specs.Arc.{tiny, p0, p1, p2, q1}

-- The constant `tiny` is 2 ^ -12.
pub tiny_is : round binary32 false 1 (2 ^ 12) ≡ tiny
unfolding round of_bits
tiny_is = refl

-- The constant `half32` is 0.5.
pub half_is : round binary32 false 1 2 ≡ half32
unfolding round of_bits
half_is = refl

-- The constant p0 is the f32 nearest to 1.6666586697e-01.
pub p0_is : round binary32 false 16666586697 (10 ^ 11) ≡ p0
unfolding round of_bits
p0_is = refl

-- The constant p1 is the f32 nearest to -4.2743422091e-02.
pub p1_is : round binary32 true 42743422091 (10 ^ 12) ≡ p1
unfolding round of_bits
p1_is = refl

-- The constant p2 is the f32 nearest to -8.6563630030e-03.
pub p2_is : round binary32 true 86563630030 (10 ^ 13) ≡ p2
unfolding round of_bits
p2_is = refl

-- The constant q1 is the f32 nearest to -7.0662963390e-01.
pub q1_is : round binary32 true 70662963390 (10 ^ 11) ≡ q1
unfolding round of_bits
q1_is = refl
