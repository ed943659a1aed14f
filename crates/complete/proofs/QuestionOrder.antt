-- The questions of completing, with one law for each way out of `complete`: the first no wins. Assumes nothing.
use mathlib.Core.Path.{◌≡◌}
use Prim.Native.Nat.{ℕ}
use mathlib.Core.Bool.{true, false}
use mathlib.Core.List.{List}
use lib.Ieee.{Float}
use Rattle.preprocess.specs.Questions.{centroids_fit, coordinates_fit}
use Rattle.preprocess.specs.BrightnessList.{order_fits}
use Rattle.settings.specs.Passes.{passes_fit}
use Rattle.pattern_entry.specs.Stars.{stars_fit}
use Rattle.candidates.specs.declared.entry_tests.Candidate.{Candidate}
use Rattle.candidates.specs.StarVectors.{stars_of}
use Rattle.complete.specs.declared.completing.Completed.{Completed}
use Rattle.std.specs.Prelude.{Result}
use Rattle.question.specs.declared.Question.{Question}
use Rattle.complete.specs.Answers.{vectors, refused, completed_as}
use Rattle.complete.specs.Question14.{candidate_fits, four_valid}
use Rattle.complete.specs.ImageVectors.{scale_of, image_vectors, matched_of}
use Rattle.complete.specs.Completing.{last_asked, completing, completed_of}

module _ (centroids : List Float) (order : List ℕ) (passes stars : List Float) (candidate : Candidate) (scale : Float) where
  abbrev answer : Result Completed Question
  answer = completed_of centroids order passes stars candidate scale

  pub no_1 : centroids_fit centroids ≡ false → completed_as (refused 1) ≡ answer
  unfolding completed_of completing
  no_1 h = rw h

  module _ (q1 : centroids_fit centroids ≡ true) where
    pub no_2 : coordinates_fit centroids ≡ false → completed_as (refused 2) ≡ answer
    unfolding completed_of completing
    no_2 h = rw (q1, h)

    module _ (q2 : coordinates_fit centroids ≡ true) where
      pub no_3 : order_fits order centroids ≡ false → completed_as (refused 3) ≡ answer
      unfolding completed_of completing
      no_3 h = rw (q1, q2, h)

      module _ (q3 : order_fits order centroids ≡ true) where
        pub no_5 : passes_fit passes ≡ false → completed_as (refused 5) ≡ answer
        unfolding completed_of completing
        no_5 h = rw (q1, q2, q3, h)

        module _ (q5 : passes_fit passes ≡ true) where
          pub no_7 : stars_fit stars ≡ false → completed_as (refused 7) ≡ answer
          unfolding completed_of completing last_asked
          no_7 h = rw (q1, q2, q3, q5, h)

          module _ (q7 : stars_fit stars ≡ true) where
            pub no_14 : candidate_fits order passes candidate scale ≡ false → completed_as (refused 14) ≡ answer
            unfolding completed_of completing last_asked
            no_14 h = rw (q1, q2, q3, q5, q7, h)

            module _ (q14 : candidate_fits order passes candidate scale ≡ true) where
              pub no_9 : four_valid stars candidate.stars ≡ false → completed_as (refused 9) ≡ answer
              unfolding completed_of completing last_asked
              no_9 h = rw (q1, q2, q3, q5, q7, q14, h)

              pub all_yes : four_valid stars candidate.stars ≡ true
                  → completed_as
                  (vectors
                  (matched_of (image_vectors centroids order candidate.places (scale_of passes candidate scale)))
                  (stars_of stars candidate.stars))
                  ≡ answer
              unfolding completed_of completing last_asked
              all_yes h = rw (q1, q2, q3, q5, q7, q14, h)
