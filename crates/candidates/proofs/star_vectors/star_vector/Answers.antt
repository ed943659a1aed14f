-- `candidates::star_vectors::star_vector` meets its contract. Assumes nothing.
use mathlib.Core.Path.{refl}
use Rattle.candidates.specs.StarVectors.{star_of}
use Rattle.candidates.proofs.star_vectors.star_vector.Goals as goal

pub returns : goal.returns
unfolding star_of
returns c = refl
