-- What `image_vectors` requires of the brightness list and of four places. Definitions only.
use Rattle.std.specs.Prelude.{◌≡◌, ℕ, ◌<◌, true, List, length, Float}
use Rattle.preprocess.specs.declared.brightness_list.Place.{Place}
use Rattle.preprocess.specs.BrightnessList.{order_fits}
use Rattle.complete.specs.Question14.{place_at}

-- Question 3 lets the brightness list through, and each of the four places lies in the list.
pub record PlacesInside (centroids : List Float) (order : List ℕ) (places : List Place) : Type 0 where
  pub fits : order_fits order centroids ≡ true
  pub first : (place_at places 0).0 < length order
  pub second : (place_at places 1).0 < length order
  pub third : (place_at places 2).0 < length order
  pub fourth : (place_at places 3).0 < length order
