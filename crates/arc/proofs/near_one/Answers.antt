use mathlib.Core.Path.{ap₂}
use lib.Ieee.{Float, nan_bits, binary32, of_bits, add, sub, mul}
use Rattle.numeric.specs.Value.{two32}
use Rattle.arc.specs.Arc.{half_pi, near_one}
use Rattle.arc.proofs.near_one.Goals as goal

pub float_from_bits-result : goal.float_from_bits-result
unfolding nan_bits
float_from_bits-result c = tt

pub returns : goal.returns
unfolding near_one of_bits
returns c = ap₂ (λ (s b : Float). sub binary32 half_pi (mul binary32 two32 (add binary32 s (mul binary32 s b)))) c.sqrt-s.ensures c.rational.ensures
