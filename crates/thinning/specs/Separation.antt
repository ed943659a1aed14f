-- Document 01, "One search": whether a direction is too near to one of several others. Definitions only.
use Rattle.std.specs.Prelude.{Bool, false, ◌||◌, List, [], ◌∷◌, get_or, Float}
use Rattle.std.specs.Float.{nan, binary32}
use Rattle.std.specs.Float.Ieee.{add, mul, lt}

-- The dot product of two directions, added from left to right.
unfoldable pub dot : List Float → List Float → Float
dot a b =
    add binary32
    (add binary32 (mul binary32 (get_or a 0 nan) (get_or b 0 nan)) (mul binary32 (get_or a 1 nan) (get_or b 1 nan)))
    (mul binary32 (get_or a 2 nan) (get_or b 2 nan))

-- Whether one of the directions in the list has a dot product with v above the cosine. An equal one is not above.
unfoldable pub too_close : Float → List Float → List (List Float) → Bool
too_close cosine v [] = false
too_close cosine v (w ∷ ws) = lt cosine (dot v w) || too_close cosine v ws
