-- `fov_sweep::write_values` meets its contract. Assumes nothing.
use Prim.Native.Nat.{ℕ}
use mathlib.Core.Path.{sym, ap, subst, ◌∙◌}
use lib.ListN.{set}
use Rattle.fov_sweep.specs.OffsetList.{offsets_left}
use Rattle.fov_sweep.proofs.WriteValues.{Written, written_start, pair_room, written_on}
use Rattle.fov_sweep.proofs.write_values.Goals as goal

pub loop-offset-init : goal.loop-offset-init
loop-offset-init c =
    let a = c.args in
    (tt, tt, written_start a.estimate a.reach a.step a.out.now c.requires _ (ap offsets_left c.into_iter-offset-iterator.ensures.into_iter_gives ∙ c.offsets_of-offset-items.ensures))

pub put_pair-at-requires : goal.put_pair-at-requires
put_pair-at-requires c =
    let a = c.args in
    let l = c.loop-offset in
    pair_room a.estimate a.reach a.step _ l.out l.at _ l.invariant.2 c.in-Some.offset _ c.in-Some.ensures.steps

pub loop-offset-preserved : goal.loop-offset-preserved
loop-offset-preserved c =
    let a = c.args in
    let l = c.loop-offset in
    let e = c.put_pair-at.ensures in
    let w = written_on a.estimate a.reach a.step _ l.out l.at _ l.invariant.2 c.in-Some.offset _ c.in-Some.ensures.steps c.put_pair-at.new.out e.1 in
    (tt, tt, subst (λ (n : ℕ). Written a.estimate a.reach a.step (set a.out.now 0 a.estimate) c.put_pair-at.new.out n (offsets_left c.next.new.self)) (sym e.0) w)
