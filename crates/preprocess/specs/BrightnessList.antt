-- The brightness list: question 3 of document 01, and the centroid at a place. Definitions only.
use Rattle.std.specs.Prelude.{ℕ, ◌/◌, Bool, true, false, not, ◌&&◌, ◌||◌, List, [], ◌∷◌, ltb, eqb, length, get_or, Float}
use Rattle.preprocess.specs.declared.unit_vectors.CentroidIndex.{CentroidIndex}
use Rattle.preprocess.specs.declared.brightness_list.Place.{Place}

-- The place with number p.
abbrev pub place_of : ℕ → Place
place_of p = record { 0 = p }

-- Whether each index is below n.
unfoldable pub all_below : ℕ → List ℕ → Bool
all_below n [] = true
all_below n (x ∷ xs) = ltb x n && all_below n xs

-- Whether x is among the indices.
unfoldable pub among : ℕ → List ℕ → Bool
among x [] = false
among x (y ∷ ys) = eqb y x || among x ys

-- Whether no index stands twice.
unfoldable pub none_twice : List ℕ → Bool
unfolding among
none_twice [] = true
none_twice (x ∷ xs) = not (among x xs) && none_twice xs

-- Question 3: "Is every index in the brightness list below the centroid count, and none twice?" A centroid is two coordinates.
unfoldable pub order_fits : List ℕ → List Float → Bool
unfolding all_below none_twice
order_fits order c = all_below (length c / 2) order && none_twice order

-- The index of the centroid at a place of the brightness list. A place past the list reads as centroid 0; questions 8 and 14 refuse a state
-- or a candidate that has such a place.
unfoldable pub centroid_of : List ℕ → Place → CentroidIndex
centroid_of order p = record { 0 = get_or order p.0 0 }
