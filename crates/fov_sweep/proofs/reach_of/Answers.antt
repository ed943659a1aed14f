-- `fov_sweep::reach_of` meets its contract. Assumes nothing.
use borrow.Author.Tests.{not-true, not-false}
use lib.Ieee.{of_bits, lt}
use Rattle.numeric.specs.Value.{zero32}
use Rattle.fov_sweep.proofs.reach_of.Goals as goal

pub returns-in_default : goal.returns-in_default
unfolding of_bits
returns-in_default c = simp c.in_default.is

pub returns-then-not-x : goal.returns-then-not-x
unfolding of_bits
returns-then-not-x c = simp (c.in-Given.is, not-true (lt zero32 _) c.if-not-x.true-raw)

pub returns : goal.returns
unfolding of_bits
returns c = simp (c.in-Given.is, not-false (lt zero32 _) c.if-not-x.false-raw, c.smaller.ensures)
