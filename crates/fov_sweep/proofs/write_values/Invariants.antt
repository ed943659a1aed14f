-- `fov_sweep::write_values` meets its contract. Assumes nothing.
use Rattle.fov_sweep.specs.OffsetList.{offsets_left}
use Rattle.fov_sweep.proofs.WriteValues.{Written}
use Rattle.fov_sweep.proofs.write_values.Given as goal

abbrev pub invariant-loop-offset : goal.invariant-loop-offset
invariant-loop-offset l =
    (goal.iterator-loop-offset).can_next l.offset-iterator
    × (goal.iterator-loop-offset).is_finite l.offset-iterator
    × Written l.estimate l.reach l.step l.initial.out l.out l.at (offsets_left l.offset-iterator)
