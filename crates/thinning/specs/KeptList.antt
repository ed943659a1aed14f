-- Document 01, "One search": which spots of a pass are kept. Definitions only.
use Rattle.std.specs.Prelude.{◌≡◌, ℕ, zero, suc, cond, List, [], ◌∷◌, ◌++◌, map, length, take, Float}
use Rattle.preprocess.specs.UnitVectors.{vector_of}
use Rattle.preprocess.specs.declared.brightness_list.Place.{Place}
use Rattle.preprocess.specs.BrightnessList.{place_of, centroid_of}
use Rattle.thinning.specs.Separation.{too_close}

-- The direction of the spot at a place of the brightness list, at a pixel scale.
abbrev pub spot_at : List Float → List ℕ → Float → ℕ → List Float
spot_at centroids order scale p = vector_of centroids (centroid_of order (place_of p)) scale

-- The kept places among the first n: "A spot is kept when no earlier kept spot has a dot product above the cosine; equal keeps it."
unfoldable pub thinned : Float → (ℕ → List Float) → ℕ → List ℕ
thinned cosine spot zero = []
thinned cosine spot (suc n) =
    thinned cosine spot n ++ cond (too_close cosine (spot n) (map spot (thinned cosine spot n))) [] (n ∷ [])

-- The kept list: "The kept list is then cut to its first `pattern_checking_stars`, and "kept" means what remains."
unfoldable pub kept_of : Float → (ℕ → List Float) → ℕ → ℕ → List ℕ
kept_of cosine spot n most = take most (thinned cosine spot n)

-- What `thin` leaves behind: the kept places are the first r of the array `places`, and their directions are the first r of the array `dirs`.
pub record Kept (cosine : Float) (spot : ℕ → List Float) (n most r : ℕ) (places : List Place) (dirs : List (List Float)) : Type 0 where
  pub count : r ≡ length (kept_of cosine spot n most)
  pub places_are : take r places ≡ map place_of (kept_of cosine spot n most)
  pub dirs_are : take r dirs ≡ map spot (kept_of cosine spot n most)
  pub places_long : length places ≡ 64
  pub dirs_long : length dirs ≡ 64
