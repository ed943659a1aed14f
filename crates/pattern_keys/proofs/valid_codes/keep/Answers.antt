use lib.Bits.{bit_and}
use mathlib.Core.Path.{sym, ap}
use mathlib.Core.Bool.{Bool, cond}
use Rattle.pattern_keys.specs.ValidCodes.{masked}
use Rattle.pattern_keys.proofs.valid_codes.keep.Goals as goal

pub returns-then-test : goal.returns-then-test
unfolding masked
returns-then-test c = ap (λ (t : Bool). cond t (bit_and c.args.v c.args.mask) c.args.v) (sym c.if-test.true)

pub returns-else-test : goal.returns-else-test
unfolding masked
returns-else-test c = ap (λ (t : Bool). cond t (bit_and c.args.v c.args.mask) c.args.v) (sym c.if-test.false)
