-- A candidate from a host in C, as the library's own type. Definitions only.
use Rattle.std.specs.Prelude.{ℕ, not, List, [], ◌∷◌, eqb, get_or}
use Rattle.preprocess.specs.declared.brightness_list.Place.{Place}
use Rattle.pattern_entry.specs.declared.stars.StarIndex.{StarIndex}
use Rattle.candidates.specs.declared.entry_tests.Candidate.{Candidate}
use Rattle.c_types.specs.declared.structs.StarCandidate.{StarCandidate}

-- Four numbers as places in the brightness list.
abbrev pub places_from : List ℕ → List Place
places_from n = record { 0 = get_or n 0 0 } ∷ record { 0 = get_or n 1 0 } ∷ record { 0 = get_or n 2 0 } ∷ record { 0 = get_or n 3 0 } ∷ []

-- Four numbers as indices of stars.
abbrev pub stars_from : List ℕ → List StarIndex
stars_from n = record { 0 = get_or n 0 0 } ∷ record { 0 = get_or n 1 0 } ∷ record { 0 = get_or n 2 0 } ∷ record { 0 = get_or n 3 0 } ∷ []

-- A candidate to be completed. Any number but 0 sets its rebuild mark.
unfoldable pub candidate_from : StarCandidate → Candidate
candidate_from c =
    record {
      pass = c.pass;
      places = places_from c.place;
      slot = c.slot;
      stars = stars_from c.star;
      field = c.field;
      rebuild = not (eqb c.rebuild 0);
    }
