-- `fov_sweep::count_values` meets its contract. Assumes nothing.
use mathlib.Core.Path.{ap, ◌∙◌}
use native.Mathlib.Omega.{arith}
use Rattle.fov_sweep.specs.OffsetList.{offsets_left}
use Rattle.fov_sweep.proofs.CountValues.{counted_start, counted_few}
use Rattle.fov_sweep.proofs.Offsets.{pair_few}
use Rattle.fov_sweep.proofs.count_values.Goals as goal

pub loop-offset-init : goal.loop-offset-init
loop-offset-init c =
    let a = c.args in
    (tt, tt, counted_start a.estimate a.reach a.step a.room _ (ap offsets_left c.into_iter-offset-iterator.ensures.into_iter_gives ∙ c.offsets_of-offset-items.ensures))

pub returns-then-room-n : goal.returns-then-room-n
returns-then-room-n c = omega (arith, c.loop-offset.invariant.2.same, c.if-room-n.true)

pub overflow_add-n : goal.overflow_add-n
overflow_add-n c =
    let a = c.args in
    let l = c.loop-offset in
    record { fits = omega (arith, counted_few a.estimate a.reach a.step a.room l.n _ l.invariant.2, c.pair_count-n.ensures, pair_few a.estimate c.in-Some.offset) }
