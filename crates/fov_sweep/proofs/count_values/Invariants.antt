-- `fov_sweep::count_values` meets its contract. Assumes nothing.
use Rattle.fov_sweep.specs.OffsetList.{offsets_left}
use Rattle.fov_sweep.proofs.CountValues.{Counted}
use Rattle.fov_sweep.proofs.count_values.Given as goal

abbrev pub invariant-loop-offset : goal.invariant-loop-offset
invariant-loop-offset l =
    (goal.iterator-loop-offset).can_next l.offset-iterator
    × (goal.iterator-loop-offset).is_finite l.offset-iterator
    × Counted l.estimate l.reach l.step l.room l.n (offsets_left l.offset-iterator)
