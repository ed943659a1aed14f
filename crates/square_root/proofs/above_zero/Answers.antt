-- `square_root::above_zero` meets its contract: the pattern of x is read as x. Assumes nothing.
use mathlib.Core.Path.{sym, ap, ◌∙◌, subst}
use Prim.Native.Nat.{◌<◌}
use native.Mathlib.Nat.{le_of_lt}
use lib.Dec.{T}
use lib.Ieee.{binary32, fits, to_bits}
use lib.Ieee.Bits.{of_bits-to_bits}
use Rattle.square_root.specs.Root.{root_of}
use Rattle.square_root.proofs.NoNan.{bits_no_nan}
use Rattle.square_root.proofs.Cases.{positive_no_nan, pattern_range}
use Rattle.square_root.proofs.above_zero.Goals as goal

-- what owning an `f32` tells: the format holds it
representable : (c : goal.Start) → T (fits binary32 c.args.x)
representable c = subst T (sym c.well_formed.0.1) tt

range : (c : goal.Start) → (0 < to_bits binary32 c.args.x) × (to_bits binary32 c.args.x < 2139095040)
range c = pattern_range c.args.x (representable c) c.requires

pub float_to_bits-b : goal.float_to_bits-b
float_to_bits-b c = positive_no_nan c.args.x c.requires

pub subnormal-requires : goal.subnormal-requires
subnormal-requires c = ((range c.before).0, c.if-b-lt8388608.true)

pub float_from_bits-result : goal.float_from_bits-result
float_from_bits-result c = bits_no_nan binary32 c.subnormal.result (le_of_lt c.subnormal.ensures.1)

pub returns-then-b-lt8388608 : goal.returns-then-b-lt8388608
returns-then-b-lt8388608 c = c.subnormal.ensures.0 ∙ ap root_of (of_bits-to_bits binary32 c.args.x (representable c.before.before))

pub normal-requires : goal.normal-requires
normal-requires c = (c.if-b-lt8388608.false, (range c.before).1)

pub float_from_bits-result-2 : goal.float_from_bits-result-2
float_from_bits-result-2 c = bits_no_nan binary32 c.normal.result (le_of_lt c.normal.ensures.1)

pub returns : goal.returns
returns c = c.normal.ensures.0 ∙ ap root_of (of_bits-to_bits binary32 c.args.x (representable c.before.before))
