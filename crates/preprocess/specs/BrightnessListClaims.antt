-- What other crates rely on, written as statements. proofs/ has a proof of each one, under the name given after it. Definitions only.
use Rattle.std.specs.Prelude.{◌≡◌, ℕ, ◌+◌, ◌*◌, ◌≤◌, ◌<◌, true, List, length, Float}
use Rattle.preprocess.specs.Questions.{centroids_fit}
use Rattle.preprocess.specs.BrightnessList.{order_fits, centroid_of}
use Rattle.preprocess.specs.declared.brightness_list.Place.{Place}

-- Where question 3 is answered yes, the centroid at each place of the brightness list lies in the centroid slice: `places_have_centroids`.
abbrev pub PlacesHaveCentroids : Type 0
PlacesHaveCentroids = (order : List ℕ) (c : List Float) (p : Place)
    → order_fits order c ≡ true → p.0 < length order → 2 * (centroid_of order p).0 + 1 < length c

-- Past questions 1 and 3 the brightness list has at most 256 places: `places_at_most_256`.
abbrev pub PlacesAtMost256 : Type 0
PlacesAtMost256 = (order : List ℕ) (c : List Float) → centroids_fit c ≡ true → order_fits order c ≡ true → length order ≤ 256
