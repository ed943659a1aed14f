use lib.ListN.{length}
use Rattle.thinning.specs.KeptList.{spot_at}
use Rattle.thinning.specs.LookAhead.{Ahead}
use Rattle.thinning.proofs.kept_list.look_ahead.Given as goal

abbrev pub invariant-loop-j : goal.invariant-loop-j
invariant-loop-j l = Ahead (spot_at l.centroids l.order l.scale) (length l.order) l.from l.j l.ahead
