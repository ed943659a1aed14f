-- The arc, which stands in for the arcsine, for h from 0 to 1: "below 2^-12 the answer is h. Below 0.5 it is h + h·R(h·h).
-- From 0.5 it is P − 2·(s + s·R(z)), where z = (1 − h)·0.5, s is the root of z and P has bits 3FC90FDB". Definitions only.
use Rattle.std.specs.Prelude.{cond, Float}
use Rattle.std.specs.Float.{binary32}
use Rattle.std.specs.Float.Ieee.{of_bits, add, sub, mul, div, lt}
use Rattle.numeric.specs.Value.{one32, two32, half32}
use Rattle.square_root.specs.Root.{root_of}

-- The f32 2 ^ -12, below which the arc of h is h.
abbrev pub tiny : Float
tiny = of_bits binary32 0x3980_0000

-- The constant P: the f32 nearest to half of pi.
abbrev pub half_pi : Float
half_pi = of_bits binary32 0x3FC9_0FDB

-- The constant p0 of R: the f32 nearest to 1.6666586697e-01.
abbrev pub p0 : Float
p0 = of_bits binary32 0x3E2A_AA75

-- The constant p1 of R: the f32 nearest to -4.2743422091e-02.
abbrev pub p1 : Float
p1 = of_bits binary32 0xBD2F_13BA

-- The constant p2 of R: the f32 nearest to -8.6563630030e-03.
abbrev pub p2 : Float
p2 = of_bits binary32 0xBC0D_D36B

-- The constant q1 of R: the f32 nearest to -7.0662963390e-01.
abbrev pub q1 : Float
q1 = of_bits binary32 0xBF34_E5AE

-- "R(z) = z·(p0 + z·(p1 + z·p2)) / (1 + z·q1)".
unfoldable pub rational : Float → Float
rational z =
    div binary32
    (mul binary32 z (add binary32 p0 (mul binary32 z (add binary32 p1 (mul binary32 z p2)))))
    (add binary32 one32 (mul binary32 z q1))

-- The sum x + x * R(z), which the second and the third piece of the arc have in common.
abbrev pub corrected : Float → Float → Float
corrected x z = add binary32 x (mul binary32 x (rational z))

-- The z of the third piece: (1 - h) * 0.5.
abbrev pub half_one_minus : Float → Float
half_one_minus h = mul binary32 (sub binary32 one32 h) half32

-- The third piece, for h from 0.5 on: P - 2 * (s + s * R(z)), where s is the root of z.
unfoldable pub near_one : Float → Float
near_one h = sub binary32 half_pi (mul binary32 two32 (corrected (root_of (half_one_minus h)) (half_one_minus h)))

-- The arc of h, in its three pieces. For h below 0 it is h too, and for h above 1 and for a NaN it is a NaN; no half distance of a search lies there.
unfoldable pub arc_of : Float → Float
arc_of h = cond (lt h tiny) h (cond (lt h half32) (corrected h (mul binary32 h h)) (near_one h))
