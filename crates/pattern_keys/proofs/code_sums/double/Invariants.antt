use Prim.Native.Nat.{◌≤◌}
use Rattle.pattern_keys.proofs.CodeSums.{Half}
use Rattle.pattern_keys.proofs.code_sums.double.Given as goal

abbrev pub invariant-loop-i : goal.invariant-loop-i
invariant-loop-i l = (l.i ≤ l.n) × Half l.initial.sums l.sums l.n l.v l.i
