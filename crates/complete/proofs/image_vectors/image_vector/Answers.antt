-- `complete::image_vectors::image_vector` meets its contract. Assumes nothing.
use mathlib.Core.Path.{◌∙◌, ap}
use Rattle.preprocess.specs.declared.unit_vectors.CentroidIndex.{CentroidIndex}
use Rattle.preprocess.specs.UnitVectors.{vector_of}
use Rattle.preprocess.proofs.BrightnessList.{places_have_centroids}
use Rattle.complete.proofs.image_vectors.image_vector.Goals as goal

pub unit_vector-requires : goal.unit_vector-requires
unit_vector-requires c = rw c.centroid_of.ensures (places_have_centroids _ _ _ c.requires.0 c.requires.1)

pub returns : goal.returns
returns c =
    let a = c.args in
    c.unit_vector.ensures ∙ ap (λ (i : CentroidIndex). vector_of a.centroids.now i a.scale) c.centroid_of.ensures
