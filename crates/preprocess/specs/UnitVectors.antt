-- The unit vector of a spot: where a centroid is in the image, turned into a direction of length about 1. Definitions only.
use Rattle.std.specs.Prelude.{◌+◌, ◌*◌, List, [], ◌∷◌, get_or, Float}
use Rattle.std.specs.Float.{nan, binary32}
use Rattle.std.specs.Float.Ieee.{add, mul, div}
use Rattle.numeric.specs.Value.{one32}
use Rattle.square_root.specs.Root.{root_of}
use Rattle.preprocess.specs.declared.unit_vectors.CentroidIndex.{CentroidIndex}

-- The norm of (u, v, 1): the root of the sum of the three squares, added from left to right.
unfoldable pub norm_of : Float → Float → Float
norm_of u v = root_of (add binary32 (add binary32 (mul binary32 u u) (mul binary32 v v)) (mul binary32 one32 one32))

-- The vector (u, v, 1) divided by its norm.
unfoldable pub over_norm : Float → Float → List Float
unfolding norm_of
over_norm u v = div binary32 u (norm_of u v) ∷ div binary32 v (norm_of u v) ∷ div binary32 one32 (norm_of u v) ∷ []

-- The unit vector of the point x, y at a pixel scale: "(x·scale, y·scale, 1), divided by its norm."
unfoldable pub unit_of : Float → Float → Float → List Float
unfolding over_norm
unit_of x y scale = over_norm (mul binary32 x scale) (mul binary32 y scale)

-- The unit vector of a centroid at a pixel scale. The slice holds pairs of f32, x then y.
unfoldable pub vector_of : List Float → CentroidIndex → Float → List Float
unfolding unit_of
vector_of c i scale = unit_of (get_or c (2 * i.0) nan) (get_or c (2 * i.0 + 1) nan) scale
