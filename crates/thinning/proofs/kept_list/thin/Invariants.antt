use Prim.Native.Nat.{◌-◌, ◌<◌, ◌%◌}
use lib.ListN.{length}
use Rattle.thinning.specs.KeptList.{spot_at}
use Rattle.thinning.specs.LookAhead.{Ahead}
use Rattle.thinning.proofs.KeptList.{Held}
use Rattle.thinning.proofs.kept_list.thin.Given as goal

-- The kept spots' directions are in the columns, and unless place i is to begin the next eight, the eight that it is among are worked out.
abbrev pub invariant-loop-i : goal.invariant-loop-i
invariant-loop-i l =
    let spot = spot_at l.centroids l.order l.scale in
    record {
      held : Held l.cosine spot l.most l.i l.places l.dirs l.cols;
      ahead : 0 < l.i % 8 → Ahead spot (length l.order) (l.i - l.i % 8) 8 l.ahead;
    }
