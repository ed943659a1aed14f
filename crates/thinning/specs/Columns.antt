-- Directions stored by columns in three arrays, one of x, one of y, one of z, so that several can be tested at once. Definitions only.
use Rattle.std.specs.Prelude.{ℕ, zero, suc, List, [], ◌∷◌, ◌++◌, get_or, Float}
use Rattle.std.specs.Float.{nan}

-- The direction in row j.
unfoldable pub row_at : List Float → List Float → List Float → ℕ → List Float
row_at x y z j = get_or x j nan ∷ get_or y j nan ∷ get_or z j nan ∷ []

-- The directions in the first n rows.
unfoldable pub rows_of : List Float → List Float → List Float → ℕ → List (List Float)
rows_of x y z zero = []
rows_of x y z (suc n) = rows_of x y z n ++ (row_at x y z n ∷ [])
