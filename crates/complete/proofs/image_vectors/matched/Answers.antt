-- `complete::image_vectors::matched` meets its contract. Assumes nothing.
use mathlib.Core.Path.{◌∙◌, ap}
use Rattle.pattern.specs.CentroidOrder.{in_order}
use Rattle.pattern.proofs.CentroidOrder.{order_positions}
use Rattle.complete.specs.ImageVectors.{matched_of}
use Rattle.complete.proofs.image_vectors.matched.Goals as goal

pub in_order-requires : goal.in_order-requires
in_order-requires c = rw c.sort_pattern_by_centroid_distance-order.ensures (order_positions _)

pub returns : goal.returns
unfolding matched_of
returns c = c.in_order.ensures ∙ ap (in_order _) c.sort_pattern_by_centroid_distance-order.ensures
