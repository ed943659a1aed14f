use Prim.Native.Nat.{◌+◌}
use mathlib.Core.Path.{ap, ◌∙◌}
use native.Mathlib.Omega.{arith}
use lib.Ieee.{le, to_unsigned}
use mir.Val.{bool_byte}
use Rattle.numeric.specs.KeyPart.{bins32}
use Rattle.pattern_keys.proofs.CutByComparing.{exact, part_small, next_small, high_near}
use Rattle.pattern_keys.proofs.key_bounds.KeyTolerance.high.Goals as goal

pub overflow_add-n : goal.overflow_add-n
overflow_add-n c = let h = part_small c.args.r c.args.self.e c.args.self.bins c.args.k c.requires.0 c.args.self.narrow c.requires.1 in record { fits = omega arith }

pub int_to_float-n : goal.int_to_float-n
int_to_float-n c = exact (c.args.k + 1) (omega (arith, part_small c.args.r c.args.self.e c.args.self.bins c.args.k c.requires.0 c.args.self.narrow c.requires.1))

pub overflow_add-n-3 : goal.overflow_add-n-3
overflow_add-n-3 c = let h = next_small c.args.r c.args.self.e c.args.self.bins c.args.k c.smaller-x.result c.requires.0 c.args.self.narrow c.requires.1 in record { fits = omega arith }

pub int_to_float-n-2 : goal.int_to_float-n-2
int_to_float-n-2 c = exact (c.args.k + bool_byte (le (bins32 (c.args.k + 1)) c.smaller-x.result) + 1) (omega (arith, next_small c.args.r c.args.self.e c.args.self.bins c.args.k c.smaller-x.result c.requires.0 c.args.self.narrow c.requires.1))

pub returns-then-n-x : goal.returns-then-n-x
returns-then-n-x c = c.truncate.ensures ∙ ap (to_unsigned 32) c.smaller-x.ensures

pub returns : goal.returns
returns c = high_near c.args.r c.args.self.e c.args.self.bins c.args.k c.smaller-x.result c.requires.0 c.args.self.narrow c.requires.1 c.smaller-x.ensures c.if-n-x.false
