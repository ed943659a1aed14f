-- `preprocess::unit_vectors::unit_vector` meets its contract. Assumes nothing.
use Rattle.preprocess.specs.UnitVectors.{vector_of}
use Rattle.preprocess.proofs.unit_vectors.unit_vector.Goals as goal

pub returns : goal.returns
unfolding vector_of
returns c = c.unit_vector_from_pixels.ensures
