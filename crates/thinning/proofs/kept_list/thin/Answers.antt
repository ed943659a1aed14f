use Prim.Native.Nat.{◌-◌, ◌%◌}
use mathlib.Core.List.{[]}
use mathlib.Core.Path.{◌≡◌, sym, ap, ◌∙◌}
use native.Mathlib.Omega.{arith}
use lib.ListN.{length, get_or}
use Rattle.thinning.specs.KeptList.{spot_at}
use Rattle.thinning.specs.LookAhead.{Ahead}
use Rattle.thinning.specs.Separation.{too_close}
use Rattle.thinning.proofs.KeptList.{thin_all, thin_cut, held_none, held_skip, held_keep}
use Rattle.thinning.proofs.LookAhead.{begun, direction_is, goes_on}
use Rattle.thinning.proofs.kept_list.thin.Goals as goal
use Rattle.thinning.proofs.kept_list.thin.Goals.{then-i-eq0, else-i-eq0, then-not-too_close, else-not-too_close}

pub loop-i-init : goal.loop-i-init
loop-i-init c = record { held = held_none _ _ _ _ _ _ c.told-places c.told-dirs c.new-cols.ensures; ahead = λ h. absurd (omega arith) }

pub returns-then-most-kept : goal.returns-then-most-kept
returns-then-most-kept c = let l = c.loop-i in rw c.len-kept.ensures (thin_cut _ _ _ _ _ _ _ l.invariant.held.thinned _ (omega arith) (omega arith))

pub loop-i-preserved : goal.loop-i-preserved
loop-i-preserved c =
    let l = c.loop-i in
    let a = c.args in
    let n = length a.order.now in
    let spot = spot_at a.centroids.now a.order.now a.scale in
    let ahead : Ahead spot n (l.i - l.i % 8) 8 c.if-i-eq0.ahead =
    elim c.if-i-eq0.branch [
      | then-i-eq0 w ↦ rw w.ahead-is (begun spot n l.i _ w.if-i-eq0.true w.look_ahead.ensures)
      | else-i-eq0 w ↦ rw w.ahead-is (l.invariant.ahead (omega arith))
    ] in
    let v : get_or c.if-i-eq0.ahead (l.i % 8) [] ≡ spot l.i = direction_is spot n l.i _ ahead c.loop-i-test.true in
    let near : too_close a.cosine (spot l.i) l.cols ≡ c.too_close.result = ap (λ w. too_close a.cosine w l.cols) (sym v) ∙ sym c.too_close.ensures in
    record {
      held =
          elim c.if-not-too_close.branch [
            | then-not-too_close w ↦ held_keep a.cosine spot a.most l.i _ _ _ _ _ _ l.invariant.held _ _ c.len-kept.ensures v (near ∙ w.if-not-too_close.true) c.if-most-kept.false c.requires.2 w.places-is w.dirs-is (w.cols-is ∙ w.push.ensures)
            | else-not-too_close w ↦ held_skip a.cosine spot a.most l.i _ _ _ _ _ _ l.invariant.held (near ∙ w.if-not-too_close.false) w.places-is w.dirs-is w.cols-is
          ];
      ahead = goes_on spot n l.i _ ahead;
    }

pub returns : goal.returns
returns c = let l = c.loop-i in rw c.len.ensures (thin_all _ _ _ _ _ _ _ l.invariant.held.thinned _ (omega arith))
