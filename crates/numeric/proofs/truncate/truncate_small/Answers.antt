use Rattle.std.proofs.Common.{arith}
use lib.Ieee.{of_bits}
use Rattle.numeric.proofs.SmallTruncation.{near_whole, one_more, no_more}
use Rattle.numeric.proofs.truncate.truncate_small.Goals as goal

pub float_to_int-n : goal.float_to_int-n
unfolding of_bits
float_to_int-n c = near_whole c.args.x c.requires.0 c.requires.1

pub overflow_sub-result : goal.overflow_sub-result
unfolding of_bits
overflow_sub-result c = let e = one_more c.args.x c.requires.0 c.requires.1 c.if-x-near.true in omega arith

pub returns-then-x-near : goal.returns-then-x-near
unfolding of_bits
returns-then-x-near c = let e = one_more c.args.x c.requires.0 c.requires.1 c.if-x-near.true in omega arith

pub returns : goal.returns
unfolding of_bits
returns c = no_more c.args.x c.requires.0 c.requires.1 c.if-x-near.false
