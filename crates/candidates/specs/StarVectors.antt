-- The directions of an entry's four stars. Definitions only.
use Rattle.std.specs.Prelude.{◌+◌, ◌*◌, List, [], ◌∷◌, get_or, Float}
use Rattle.std.specs.Float.{nan}
use Rattle.pattern_entry.specs.declared.stars.StarIndex.{StarIndex}

-- The direction of a star: its three components.
unfoldable pub star_of : List Float → StarIndex → List Float
star_of stars i = get_or stars (i.0 * 3) nan ∷ get_or stars (i.0 * 3 + 1) nan ∷ get_or stars (i.0 * 3 + 2) nan ∷ []

-- What is read past the end of a list of stars. The lists here have four, so this is never reached.
abbrev pub no_star : StarIndex
no_star = record { 0 = 0 }

-- The directions of four stars, in the entry's order.
unfoldable pub stars_of : List Float → List StarIndex → List (List Float)
stars_of stars four =
    star_of stars (get_or four 0 no_star) ∷ star_of stars (get_or four 1 no_star) ∷ star_of stars (get_or four 2 no_star) ∷ star_of stars (get_or four 3 no_star) ∷ []
