-- `square_root::sqrt` meets its contract: each case that its tests part is a case of `root_of`. Assumes nothing.
use lib.Ieee.{of_bits, div}
use Rattle.square_root.proofs.Cases.{is_positive, root_inf, root_zero, root_none}
use Rattle.square_root.proofs.sqrt.Goals as goal

pub above_zero-requires : goal.above_zero-requires
unfolding of_bits div
above_zero-requires c = is_positive c.args.x c.if-x.true c.if-x-2.true

pub returns-then-x : goal.returns-then-x
unfolding of_bits div
returns-then-x c = root_inf c.args.x c.if-x.true c.if-x-2.false

pub returns-then-x-3 : goal.returns-then-x-3
unfolding of_bits div
returns-then-x-3 c = root_zero c.args.x c.if-x-3.true

pub returns : goal.returns
unfolding of_bits div
returns c = root_none c.args.x c.if-x.false c.if-x-3.false
