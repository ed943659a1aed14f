-- The edges of a pattern of four directions, and their ratios. Definitions only.
use Rattle.std.specs.Prelude.{cond, List, [], ◌∷◌, slice_index_or, Float}
use Rattle.std.specs.Float.{nan, binary32}
use Rattle.std.specs.Float.Ieee.{add, sub, mul, div, lt}
use Rattle.numeric.specs.Value.{zero32, one32, two32, half32}
use Rattle.square_root.specs.Root.{root_of}
use Rattle.arc.specs.Arc.{arc_of}
use Rattle.numeric.specs.MinMax.{smaller}
use Rattle.pattern.specs.Sort.{sorted}

-- "The source's powi(2) is read as a product of the value with itself."
abbrev pub squared : Float → Float
squared x = mul binary32 x x

-- The squared distance of two points, added from left to right.
unfoldable pub squared_distance : List Float → List Float → Float
squared_distance a b =
    add binary32
    (add binary32
    (squared (sub binary32 (slice_index_or a 0 nan) (slice_index_or b 0 nan)))
    (squared (sub binary32 (slice_index_or a 1 nan) (slice_index_or b 1 nan))))
    (squared (sub binary32 (slice_index_or a 2 nan) (slice_index_or b 2 nan)))

-- The distance of two points.
abbrev pub distance : List Float → List Float → Float
distance a b = root_of (squared_distance a b)

-- "Six distances give six angles, each twice the arc of half the distance, that half cut to at most 1"
unfoldable pub angle_of : Float → Float
angle_of d = mul binary32 two32 (arc_of (smaller (mul binary32 half32 d) one32))

-- The angle between two directions.
abbrev pub angle : List Float → List Float → Float
angle a b = angle_of (distance a b)

-- The angles of the six pairs of four directions, in the source's order of the pairs.
unfoldable pub angles : List (List Float) → List Float
angles v =
    angle (slice_index_or v 0 []) (slice_index_or v 1 [])
    ∷ angle (slice_index_or v 0 []) (slice_index_or v 2 [])
    ∷ angle (slice_index_or v 0 []) (slice_index_or v 3 [])
    ∷ angle (slice_index_or v 1 []) (slice_index_or v 2 [])
    ∷ angle (slice_index_or v 1 []) (slice_index_or v 3 [])
    ∷ angle (slice_index_or v 2 []) (slice_index_or v 3 [])
    ∷ []

-- The six angles, ".. sorted upwards".
unfoldable pub edges_of : List (List Float) → List Float
edges_of v = sorted lt (angles v)

-- "each ratio is one division of an edge by the largest"
unfoldable pub divided_by_largest : List Float → List Float
divided_by_largest e =
    div binary32 (slice_index_or e 0 nan) (slice_index_or e 5 nan)
    ∷ div binary32 (slice_index_or e 1 nan) (slice_index_or e 5 nan)
    ∷ div binary32 (slice_index_or e 2 nan) (slice_index_or e 5 nan)
    ∷ div binary32 (slice_index_or e 3 nan) (slice_index_or e 5 nan)
    ∷ div binary32 (slice_index_or e 4 nan) (slice_index_or e 5 nan)
    ∷ []

-- Five ratios that are all 0.
abbrev pub zero_ratios : List Float
zero_ratios = zero32 ∷ zero32 ∷ zero32 ∷ zero32 ∷ zero32 ∷ []

-- "A largest edge not above 0 makes all five ratios 0."
unfoldable pub ratios_of : List Float → List Float
ratios_of e = cond (lt zero32 (slice_index_or e 5 nan)) (divided_by_largest e) zero_ratios
