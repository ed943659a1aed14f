use Rattle.std.proofs.Common.{◌≡◌}
use Rattle.pattern_keys.proofs.ValidCodes.{ranged_to}
use Rattle.pattern_keys.proofs.valid_codes.in_ranges.Given as goal

abbrev pub invariant-loop-i : goal.invariant-loop-i
invariant-loop-i l = l.v ≡ ranged_to l.lo l.hi l.i
