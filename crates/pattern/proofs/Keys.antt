-- The key of rising ratios: its parts are at most bins and never fall. Assumes nothing.
use Rattle.std.proofs.Common.{ℕ, ◌<◌, ◌≤◌, get_or}
use lib.Ieee.{Float, nan}
use Rattle.numeric.specs.Value.{zero32, one32}
use Rattle.numeric.specs.KeyPart.{part_of}
use Rattle.numeric.specs.Ratios.{Ratio}
use Rattle.numeric.proofs.Intervals.{in_finite}
use Rattle.numeric.proofs.KeyParts.{part_at_most, parts_never_fall}
use Rattle.pattern.specs.Key.{key_of}
use Rattle.pattern.specs.KeyClaims.{KeyParts, KeyRises}

-- The part of a ratio is at most bins.
pub part_below : (r : Float) (B : ℕ) → Ratio r → 0 < B → B ≤ 4096 → part_of r B ≤ B
part_below r B i p l = part_at_most r B (in_finite {a = zero32} {b = one32} tt tt i.unit) i.unit.high p l

pub key_parts : KeyParts
unfolding key_of
key_parts r B i p l =
    record {
      few = l;
      first = part_below (get_or r 0 nan) B i.first p l;
      second = part_below (get_or r 1 nan) B i.second p l;
      third = part_below (get_or r 2 nan) B i.third p l;
      fourth = part_below (get_or r 3 nan) B i.fourth p l;
      fifth = part_below (get_or r 4 nan) B i.fifth p l;
    }

pub key_rises : KeyRises
unfolding key_of
key_rises r B i p l = (
  parts_never_fall (get_or r 0 nan) (get_or r 1 nan) B i.rise.0 p l,
  parts_never_fall (get_or r 1 nan) (get_or r 2 nan) B i.rise.1 p l,
  parts_never_fall (get_or r 2 nan) (get_or r 3 nan) B i.rise.2 p l,
  parts_never_fall (get_or r 3 nan) (get_or r 4 nan) B i.rise.3 p l,
)
