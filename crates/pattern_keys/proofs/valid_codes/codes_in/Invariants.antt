use Rattle.std.proofs.Common.{◌≡◌}
use Rattle.pattern_keys.proofs.ValidCodes.{valid_to}
use Rattle.pattern_keys.proofs.valid_codes.codes_in.Given as goal

abbrev pub invariant-loop-i : goal.invariant-loop-i
invariant-loop-i l = l.v ≡ valid_to l.fn.lo l.fn.hi l.i
