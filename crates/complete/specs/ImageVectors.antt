-- Document 01, "Completing it takes a pixel scale for the measured field ..": the image vectors in matched order. Definitions only.
use Rattle.std.specs.Prelude.{ℕ, cond, List, [], ◌∷◌, Float}
use Rattle.preprocess.specs.declared.brightness_list.Place.{Place}
use Rattle.preprocess.specs.BrightnessList.{centroid_of}
use Rattle.preprocess.specs.UnitVectors.{vector_of}
use Rattle.settings.specs.Passes.{pass_at}
use Rattle.pattern.specs.CentroidOrder.{order_of, in_order}
use Rattle.candidates.specs.declared.entry_tests.Candidate.{Candidate}
use Rattle.complete.specs.Question14.{place_at}

-- The pixel scale: "a pixel scale for the measured field, used only when the mark is set". Otherwise it is that of the candidate's pass.
unfoldable pub scale_of : List Float → Candidate → Float → Float
scale_of passes candidate scale = cond candidate.rebuild scale (pass_at passes candidate.pass).scale

-- The unit vector of the centroid at a place of the brightness list.
abbrev pub image_vector : List Float → List ℕ → Place → Float → List Float
image_vector centroids order p scale = vector_of centroids (centroid_of order p) scale

-- The unit vectors of the centroids at four places, in the order of the places.
unfoldable pub image_vectors : List Float → List ℕ → List Place → Float → List (List Float)
image_vectors centroids order places scale =
    image_vector centroids order (place_at places 0) scale
    ∷ image_vector centroids order (place_at places 1) scale
    ∷ image_vector centroids order (place_at places 2) scale
    ∷ image_vector centroids order (place_at places 3) scale
    ∷ []

-- Four directions "in matched order": by distance to the centroid of the four, the nearest first.
unfoldable pub matched_of : List (List Float) → List (List Float)
matched_of v = in_order v (order_of v)
