use Rattle.std.proofs.Common.{sym, subst, T}
use lib.Ieee.{of_bits}
use Rattle.numeric.proofs.truncate.truncate.Goals as goal

pub truncate_small-requires : goal.truncate_small-requires
unfolding of_bits
truncate_small-requires c = (subst T (sym c.if-x.true) tt, subst T (sym c.if-x-2.true) tt)
