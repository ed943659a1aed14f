use Prim.Native.Nat.{◌+◌, ◌<◌}
use lib.ListN.{get_or}
use native.Mathlib.Omega.{arith}
use Rattle.pattern_keys.proofs.code_sums.double.Goals as goal

pub overflow_add-sums : goal.overflow_add-sums
overflow_add-sums c =
    let l = c.loop-i in
    let h : l.i < c.args.n = omega arith in
    let a = c.requires.each l.i h in
    let b = l.invariant.1.same l.i h in
    let f : get_or l.sums l.i 0 + c.args.v < 18446744073709551616 = omega arith in
    record { fits = f }
