-- Four places that rise below the list's length each lie in the list; and the four image vectors, put together. Assumes nothing.
use mathlib.Core.Path.{◌≡◌}
use Prim.Native.Nat.{ℕ}
use native.Mathlib.Omega.{arith}
use mathlib.Core.Bool.{true}
use mathlib.Core.List.{List, [], ◌∷◌}
use borrow.Author.Tests.{ltb-true}
use lib.Dec.{ltb}
use lib.ListN.{length}
use lib.Ieee.{Float}
use Rattle.preprocess.specs.declared.brightness_list.Place.{Place}
use Rattle.preprocess.specs.BrightnessList.{order_fits}
use Rattle.complete.specs.Question14.{place_at, places_rise}
use Rattle.complete.proofs.Question14.{both}
use Rattle.complete.specs.ImageVectors.{image_vector, image_vectors}
use Rattle.complete.specs.PlacesInside.{PlacesInside}

pub places_inside : (centroids : List Float) (order : List ℕ) (places : List Place)
    → order_fits order centroids ≡ true → places_rise places (length order) ≡ true → PlacesInside centroids order places
unfolding places_rise
places_inside centroids order places f h =
    let p1 = both (ltb (place_at places 0).0 (place_at places 1).0) _ h in
    let p2 = both (ltb (place_at places 1).0 (place_at places 2).0) _ p1.1 in
    let p3 = both (ltb (place_at places 2).0 (place_at places 3).0) _ p2.1 in
    let a = ltb-true (place_at places 0).0 (place_at places 1).0 p1.0 in
    let b = ltb-true (place_at places 1).0 (place_at places 2).0 p2.0 in
    let c = ltb-true (place_at places 2).0 (place_at places 3).0 p3.0 in
    let d = ltb-true (place_at places 3).0 (length order) p3.1 in
    record { fits = f; first = omega arith; second = omega arith; third = omega arith; fourth = omega arith }

-- Four image vectors, each as it should be, are the image vectors of the four places.
pub image_four : (centroids : List Float) (order : List ℕ) (places : List Place) (scale : Float) {a b c d : List Float}
    → a ≡ image_vector centroids order (place_at places 0) scale
    → b ≡ image_vector centroids order (place_at places 1) scale
    → c ≡ image_vector centroids order (place_at places 2) scale
    → d ≡ image_vector centroids order (place_at places 3) scale
    → a ∷ b ∷ c ∷ d ∷ [] ≡ image_vectors centroids order places scale
unfolding image_vectors
image_four centroids order places scale ea eb ec ed = rw (ea, eb, ec, ed)
