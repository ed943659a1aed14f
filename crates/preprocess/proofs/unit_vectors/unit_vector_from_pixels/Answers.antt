-- `preprocess::unit_vectors::unit_vector_from_pixels` meets its contract. Assumes nothing.
use mathlib.Core.Path.{ap}
use mathlib.Core.List.{[], ◌∷◌}
use lib.Ieee.{Float, binary32, of_bits, mul, div}
use Rattle.numeric.specs.Value.{one32}
use Rattle.preprocess.specs.UnitVectors.{unit_of, over_norm, norm_of}
use Rattle.preprocess.proofs.unit_vectors.unit_vector_from_pixels.Goals as goal

pub returns : goal.returns
unfolding unit_of over_norm norm_of of_bits
returns c =
    let a = c.args in
    ap (λ (n : Float). div binary32 (mul binary32 a.x a.scale) n ∷ div binary32 (mul binary32 a.y a.scale) n ∷ div binary32 one32 n ∷ []) c.sqrt-norm.ensures
