use native.Mathlib.Omega.{arith}
use borrow.Author.Tests.{le-leb, lt-leb}
use Rattle.c_types.specs.Config.{bins_of}
use Rattle.c_types.proofs.config.bins_of.Goals as goal

pub returns-then-tag-le1 : goal.returns-then-tag-le1
unfolding bins_of
returns-then-tag-le1 c = rw (le-leb c.args.tag 1 (omega arith))

pub returns : goal.returns
unfolding bins_of
returns c = rw (lt-leb c.args.tag 1 (omega arith))
