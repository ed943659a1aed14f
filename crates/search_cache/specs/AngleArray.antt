-- The array of directions and angles that a call keeps: at which index each of them is. Definitions only.
use Rattle.std.specs.Prelude.{◌≡◌, ℕ, zero, suc, ◌+◌, ◌*◌, ◌≤◌, ◌<◌, true, cond, List, [], ◌∷◌, ◌⊎◌, pos, get_or, Float}
use Rattle.std.specs.Float.{nan, fin}
use Rattle.std.specs.Float.Ieee.{lt}
use Rattle.numeric.specs.Value.{zero32}
use Rattle.combinations.specs.declared.Combination.{Combination}
use Rattle.pattern.specs.Edges.{angle}

-- How many pairs the first j positions have.
unfoldable pub pairs : ℕ → ℕ
pairs zero = 0
pairs (suc j) = pairs j + j

-- The index at which the angles of position j with the positions before it begin: after the 64 directions and the pairs of the first j positions.
abbrev pub row_at : ℕ → ℕ
row_at j = 192 + pairs j

-- The first three components of a list.
abbrev pub three_of : List Float → List Float
three_of v = get_or v 0 nan ∷ get_or v 1 nan ∷ get_or v 2 nan ∷ []

-- The direction that the array m has at position k.
unfoldable pub direction_at : List Float → ℕ → List Float
direction_at m k = get_or m (3 * k) nan ∷ get_or m (3 * k + 1) nan ∷ get_or m (3 * k + 2) nan ∷ []

-- The value that the array has for an angle that is not worked out: -1.
abbrev pub unset : Float
unset = fin true 1 (pos 0)

-- The value that the array m has for the angle of positions i and j.
abbrev pub angle_in : List Float → ℕ → ℕ → Float
angle_in m i j = get_or m (row_at j + i) nan

-- The values that the array m has for the angles of the six pairs of four positions, in the source's order.
abbrev pub six_in : List Float → Combination → List Float
six_in m q = angle_in m q.a q.b ∷ angle_in m q.a q.c ∷ angle_in m q.a q.d ∷ angle_in m q.b q.c ∷ angle_in m q.b q.d ∷ angle_in m q.c q.d ∷ []

-- In the array m the angle of each two of the first n positions is unset, or it is the angle of their directions. n is at most 64.
pub record AnglesCached (n : ℕ) (m : List Float) : Type 0 where
  pub few : n ≤ 64
  pub each : (i j : ℕ) → i < j → j < n → (angle_in m i j ≡ unset) ⊎ (angle_in m i j ≡ angle (direction_at m i) (direction_at m j))

-- The directions that the array m has at the four positions of a combination.
abbrev pub four_at : List Float → Combination → List (List Float)
four_at m q = direction_at m q.a ∷ direction_at m q.b ∷ direction_at m q.c ∷ direction_at m q.d ∷ []

-- The array m' has the same directions as m, and its angles are cached for as many positions. This is what working out angles leaves.
pub record SameDirections (m m' : List Float) : Type 0 where
  pub directions : (k : ℕ) → k < 64 → direction_at m' k ≡ direction_at m k
  pub cached : (n : ℕ) → AnglesCached n m → AnglesCached n m'

-- The array m is loaded with the first n of these directions, and with their angles, each unset or worked out.
pub record DirectionsStored (dirs : List (List Float)) (n : ℕ) (m : List Float) : Type 0 where
  pub directions : (k : ℕ) → k < n → direction_at m k ≡ three_of (get_or dirs k [])
  pub cached : AnglesCached n m

-- The angle of the directions a and b: `known`, or, where that is below 0, the angle worked out from the directions.
unfoldable pub known_or : Float → List Float → List Float → Float
known_or known a b = cond (lt known zero32) (angle a b) known

-- The angles of the six pairs of four directions, in the source's order, those that are known taken as they are.
unfoldable pub angles_beside : List (List Float) → List Float → List Float
angles_beside v known =
    known_or (get_or known 0 nan) (get_or v 0 []) (get_or v 1 [])
    ∷ known_or (get_or known 1 nan) (get_or v 0 []) (get_or v 2 [])
    ∷ known_or (get_or known 2 nan) (get_or v 0 []) (get_or v 3 [])
    ∷ known_or (get_or known 3 nan) (get_or v 1 []) (get_or v 2 [])
    ∷ known_or (get_or known 4 nan) (get_or v 1 []) (get_or v 3 [])
    ∷ known_or (get_or known 5 nan) (get_or v 2 []) (get_or v 3 [])
    ∷ []
