-- What `star_vectors` requires of an entry's four stars. Definitions only.
use Rattle.std.specs.Prelude.{◌+◌, ◌*◌, ◌<◌, List, length, get_or, Float}
use Rattle.pattern_entry.specs.declared.stars.StarIndex.{StarIndex}
use Rattle.candidates.specs.StarVectors.{no_star}

-- Each of the four stars lies inside the star slice.
pub record StarsInside (stars : List Float) (four : List StarIndex) : Type 0 where
  pub first : (get_or four 0 no_star).0 * 3 + 2 < length stars
  pub second : (get_or four 1 no_star).0 * 3 + 2 < length stars
  pub third : (get_or four 2 no_star).0 * 3 + 2 < length stars
  pub fourth : (get_or four 3 no_star).0 * 3 + 2 < length stars
