-- `square_root::subnormal` meets its contract: the shift leaves a number of 24 digits. Assumes nothing.
use mathlib.Core.Path.{subst}
use Prim.Native.Nat.{ℕ, ◌-◌}
use native.Mathlib.Omega.{arith}
use lib.Count.{count_leading_zeros}
use Rattle.square_root.specs.Steps.{Pattern}
use Rattle.square_root.proofs.Values.{Moved, moved, small_root}
use Rattle.square_root.proofs.subnormal.Goals as goal

shifted : (c : goal.Start) → Moved c.args.b (count_leading_zeros 32 c.args.b)
shifted c = moved c.args.b c.requires.0 c.requires.1

pub overflow_sub-z : goal.overflow_sub-z
overflow_sub-z c = omega (arith, shifted c)

pub pattern-requires : goal.pattern-requires
pattern-requires c = omega (arith, shifted c)

pub returns : goal.returns
returns c =
    let b = c.args.b in
    let m = shifted c.before in
    small_root b (count_leading_zeros 32 b) c.pattern.result c.requires.0 c.requires.1 m
    (subst (λ (k : ℕ). Pattern k (32 - count_leading_zeros 32 b) c.pattern.result) m.whole c.pattern.ensures)
