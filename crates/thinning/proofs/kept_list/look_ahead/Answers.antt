use mathlib.Core.Path.{ap, ◌∙◌}
use native.Mathlib.Omega.{arith}
use Rattle.preprocess.proofs.BrightnessList.{places_have_centroids}
use Rattle.preprocess.specs.UnitVectors.{vector_of}
use Rattle.thinning.proofs.LookAhead.{ahead_none, ahead_past, ahead_more}
use Rattle.thinning.proofs.kept_list.look_ahead.Goals as goal
use Rattle.thinning.proofs.kept_list.look_ahead.Goals.{then-from-j, else-from-j}

pub loop-j-init : goal.loop-j-init
loop-j-init c = ahead_none _ _ _ _ (omega arith)

pub unit_vector-requires : goal.unit_vector-requires
unit_vector-requires c = let a = c.args in rw c.centroid_of-i.ensures (places_have_centroids a.order.now a.centroids.now _ c.requires.0 (omega arith))

pub loop-j-preserved : goal.loop-j-preserved
loop-j-preserved c =
    let l = c.loop-j in
    let a = c.args in
    elim c.if-from-j.branch [
      | then-from-j w ↦ rw w.ahead-is (ahead_more _ _ _ _ _ l.invariant (omega arith) _ (w.unit_vector.ensures ∙ ap (λ z. vector_of a.centroids.now z a.scale) w.centroid_of-i.ensures))
      | else-from-j w ↦ rw w.ahead-is (ahead_past _ _ _ _ _ l.invariant w.if-from-j.false)
    ]
