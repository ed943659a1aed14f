use Prim.Native.Nat.{◌-◌}
use Rattle.pattern_keys.proofs.CodeList.{Adding}
use Rattle.pattern_keys.proofs.codes.add.Given as goal

abbrev pub invariant-loop : goal.invariant-loop
invariant-loop l = Adding l.sums l.valid l.initial.out l.out l.m l.n l.word l.count l.w (l.count - l.counter)
