-- `complete::image_vectors::image_vectors` meets its contract. Assumes nothing.
use Rattle.complete.proofs.PlacesInside.{image_four}
use Rattle.complete.proofs.image_vectors.image_vectors.Goals as goal

pub returns : goal.returns
returns c = image_four _ _ _ _ c.image_vector-a.ensures c.image_vector-b.ensures c.image_vector-c.ensures c.image_vector-d.ensures
