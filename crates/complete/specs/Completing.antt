-- Completing a candidate, with its questions; document 01, "Completing it takes a pixel scale for the measured field ..". Definitions only.
use Rattle.std.specs.Prelude.{ℕ, Bool, List, Float, Result}
use Rattle.pattern_entry.specs.FirstNo.{ask}
use Rattle.pattern_entry.specs.Stars.{stars_fit}
use Rattle.candidates.specs.StarVectors.{stars_of}
use Rattle.preprocess.specs.Questions.{centroids_fit, coordinates_fit}
use Rattle.preprocess.specs.BrightnessList.{order_fits}
use Rattle.settings.specs.Passes.{passes_fit}
use Rattle.candidates.specs.declared.entry_tests.Candidate.{Candidate}
use Rattle.complete.specs.Question14.{candidate_fits, four_valid}
use Rattle.complete.specs.ImageVectors.{scale_of, image_vectors, matched_of}
use Rattle.complete.specs.declared.completing.Completed.{Completed}
use Rattle.question.specs.declared.Question.{Question}
use Rattle.complete.specs.Answers.{Answer, vectors, refused, completed_as}

-- the last three questions: 7, 14, then 9
unfoldable pub last_asked : Bool → Bool → Bool → Answer → Answer
last_asked seven fourteen nine given = ask seven (refused 7) (ask fourteen (refused 14) (ask nine (refused 9) given))

-- Document 01's answer of completing: "Completing: 1, 2, 3, 5, 7, then 14 .., then 9 for its stars."
unfoldable pub completing : List Float → List ℕ → List Float → List Float → Candidate → Float → Answer
completing centroids order passes stars candidate scale =
    ask (centroids_fit centroids) (refused 1)
    (ask (coordinates_fit centroids) (refused 2)
    (ask (order_fits order centroids) (refused 3)
    (ask (passes_fit passes) (refused 5)
    (last_asked (stars_fit stars) (candidate_fits order passes candidate scale) (four_valid stars candidate.stars)
    (vectors
    (matched_of (image_vectors centroids order candidate.places (scale_of passes candidate scale)))
    (stars_of stars candidate.stars))))))

-- What `complete` returns: document 01's answer as a result.
unfoldable pub completed_of : List Float → List ℕ → List Float → List Float → Candidate → Float → Result Completed Question
completed_of centroids order passes stars candidate scale = completed_as (completing centroids order passes stars candidate scale)
