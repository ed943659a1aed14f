-- The candidate that stands in the answers for C that give none. Definitions only.
use Rattle.std.specs.Prelude.{false, [], ◌∷◌}
use Rattle.numeric.specs.Value.{zero32}
use Rattle.preprocess.specs.BrightnessList.{place_of}
use Rattle.pattern_entry.specs.Entry.{star}
use Rattle.candidates.specs.declared.entry_tests.Candidate.{Candidate}

-- The candidate whose numbers are all zero. In Rattle an answer that gives none holds no candidate.
unfoldable pub no_candidate : Candidate
no_candidate =
    record {
      pass = 0;
      places = place_of 0 ∷ place_of 0 ∷ place_of 0 ∷ place_of 0 ∷ [];
      slot = 0;
      stars = star 0 ∷ star 0 ∷ star 0 ∷ star 0 ∷ [];
      field = zero32;
      rebuild = false;
    }
