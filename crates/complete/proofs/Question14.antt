-- What follows where question 14, and question 9 for the four stars, is answered yes. Assumes nothing.
use mathlib.Core.Path.{◌≡◌, ap}
use Prim.Native.Nat.{ℕ, ◌/◌, ◌<◌}
use mathlib.Core.Bool.{true, ◌&&◌}
use mathlib.Core.List.{List, [], ◌∷◌}
use native.Mathlib.Omega.{arith}
use Rattle.std.specs.List.{list_all}
use borrow.Author.Tests.{ltb-true}
use lib.Dec.{ltb}
use lib.ListN.{length, get_or}
use lib.Ieee.{Float}
use Rattle.settings.specs.PassLimits.{scale_fits}
pub use Rattle.pattern_entry.proofs.Every.{both}
use Rattle.pattern_entry.proofs.Every.{all_three}
use Rattle.pattern_entry.specs.declared.stars.StarIndex.{StarIndex}
use Rattle.pattern_entry.specs.Stars.{star_valid}
use Rattle.pattern_entry.proofs.StarValid.{valid_star}
use Rattle.candidates.specs.StarVectors.{no_star}
use Rattle.candidates.specs.StarsInside.{StarsInside}
use Rattle.candidates.specs.declared.entry_tests.Candidate.{Candidate}
use Rattle.complete.specs.Question14.{places_rise, candidate_fits, four_valid}

-- What follows where question 14 is answered yes.
module _ (order : List ℕ) (passes : List Float) (candidate : Candidate) (scale : Float) (h : candidate_fits order passes candidate scale ≡ true) where
  pub pass_exists : candidate.pass < length passes / 3
  unfolding candidate_fits
  pass_exists = ltb-true candidate.pass (length passes / 3) (both (ltb candidate.pass (length passes / 3)) _ h).0

  pub rising_places : places_rise candidate.places (length order) ≡ true
  unfolding candidate_fits
  rising_places =
      (both (places_rise candidate.places (length order)) (scale_fits scale) (both (ltb candidate.pass (length passes / 3)) _ h).1).0

-- What `all` says of the four stars.
pub all_four : (stars : List Float) (four : List StarIndex) → length four ≡ 4 → list_all (λ (i : StarIndex). star_valid stars i.0) four ≡ four_valid stars four
unfolding four_valid
all_four stars [] l = absurd (omega arith)
all_four stars (a ∷ []) l = absurd (omega arith)
all_four stars (a ∷ b ∷ []) l = absurd (omega arith)
all_four stars (a ∷ b ∷ c ∷ []) l = absurd (omega arith)
all_four stars (a ∷ b ∷ c ∷ d ∷ []) l = ap (star_valid stars a.0 &&◌) (all_three (star_valid stars b.0) (star_valid stars c.0) (star_valid stars d.0))
all_four stars (a ∷ b ∷ c ∷ d ∷ e ∷ r) l = absurd (omega arith)

-- Where question 9 is answered yes for the four stars, they lie inside the star slice.
pub stars_inside : (stars : List Float) (four : List StarIndex) → four_valid stars four ≡ true → StarsInside stars four
unfolding four_valid
stars_inside stars four h =
    let p1 = both (star_valid stars (get_or four 0 no_star).0) _ h in
    let p2 = both (star_valid stars (get_or four 1 no_star).0) _ p1.1 in
    let p3 = both (star_valid stars (get_or four 2 no_star).0) _ p2.1 in
    record {
      first = (valid_star stars (get_or four 0 no_star).0 p1.0).1;
      second = (valid_star stars (get_or four 1 no_star).0 p2.0).1;
      third = (valid_star stars (get_or four 2 no_star).0 p3.0).1;
      fourth = (valid_star stars (get_or four 3 no_star).0 p3.1).1;
    }
