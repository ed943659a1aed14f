-- What other crates rely on, written as statements. proofs/ has a proof of each one, under the name given after it. Definitions only.
use Rattle.std.specs.Prelude.{◌≡◌, ℕ, true, ◌↔◌, List, Float, is_ok}
use Rattle.preprocess.specs.Questions.{centroids_fit, coordinates_fit}
use Rattle.preprocess.specs.BrightnessList.{order_fits}
use Rattle.settings.specs.Passes.{passes_fit}
use Rattle.pattern_entry.specs.Stars.{stars_fit}
use Rattle.candidates.specs.declared.entry_tests.Candidate.{Candidate}
use Rattle.complete.specs.Answers.{completed_says}
use Rattle.complete.specs.Question14.{candidate_fits, four_valid}
use Rattle.complete.specs.Completing.{completing, completed_of}

-- What `complete` returns stands for document 01's answer: `says_completed`.
abbrev pub CompletedSays : Type 0
CompletedSays = (centroids : List Float) (order : List ℕ) (passes stars : List Float) (candidate : Candidate) (scale : Float)
    → completed_says (completed_of centroids order passes stars candidate scale) ≡ completing centroids order passes stars candidate scale

-- each of completing's questions has a yes
pub record Asked (centroids : List Float) (order : List ℕ) (passes stars : List Float) (candidate : Candidate) (scale : Float) : Type 0 where
  pub one : centroids_fit centroids ≡ true
  pub two : coordinates_fit centroids ≡ true
  pub three : order_fits order centroids ≡ true
  pub five : passes_fit passes ≡ true
  pub seven : stars_fit stars ≡ true
  pub fourteen : candidate_fits order passes candidate scale ≡ true
  pub nine : four_valid stars candidate.stars ≡ true

-- Completing is done exactly when every one of its questions is answered yes: `done_exactly`.
abbrev pub DoneExactly : Type 0
DoneExactly = (centroids : List Float) (order : List ℕ) (passes stars : List Float) (candidate : Candidate) (scale : Float)
    → (is_ok (completed_of centroids order passes stars candidate scale) ≡ true)
    ↔ Asked centroids order passes stars candidate scale
