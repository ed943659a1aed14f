-- What `complete` returns stands for document 01's answer, and when it is done. Assumes nothing.
use mathlib.Core.Path.{◌≡◌, refl, ◌∙◌, ap}
use Prim.Native.Nat.{ℕ}
use native.Mathlib.Omega.{arith}
use mathlib.Core.Bool.{Bool, true, false}
use mathlib.Core.List.{List}
use lib.Ieee.{Float}
use Rattle.pattern.specs.CentroidOrder.{in_order}
use Rattle.pattern_entry.specs.FirstNo.{ask}
use Rattle.preprocess.specs.Questions.{centroids_fit, coordinates_fit}
use Rattle.preprocess.specs.BrightnessList.{order_fits}
use Rattle.settings.specs.Passes.{passes_fit}
use Rattle.pattern_entry.specs.Stars.{stars_fit}
use Rattle.candidates.specs.declared.entry_tests.Candidate.{Candidate}
use Rattle.candidates.specs.StarVectors.{stars_of}
use Rattle.std.specs.Prelude.{Result, is_ok}
use Rattle.question.specs.Question.{number_of, question_of}
use Rattle.question.specs.declared.Question.{Question}
use Rattle.complete.specs.declared.completing.Completed.{Completed}
use Rattle.complete.specs.Answers.{Answer, vectors, refused, completed_as, completed_says}
use Rattle.complete.specs.Question14.{candidate_fits, four_valid}
use Rattle.complete.specs.ImageVectors.{scale_of, image_vectors, matched_of}
use Rattle.complete.specs.Completing.{last_asked, completing, completed_of}
use Rattle.complete.specs.Claims.{CompletedSays, Asked, DoneExactly}

-- The result that an answer is returned as stands for that answer again. The laws below carry this through a question.
SaysItself : Answer → Type 0
SaysItself a = completed_says (completed_as a) ≡ a

says_itself_ask : (t : Bool) (n : ℕ) → number_of (question_of n) ≡ n → (a : Answer) → SaysItself a → SaysItself (ask t (refused n) a)
unfolding SaysItself
says_itself_ask true n e a h = h
says_itself_ask false n e a h = ap refused e

says_itself_vectors : (v : List (List Float)) (stars : List Float) (candidate : Candidate) → SaysItself (vectors (matched_of v) (stars_of stars candidate.stars))
unfolding SaysItself matched_of in_order stars_of
says_itself_vectors v stars candidate = refl

pub says_completed : CompletedSays
unfolding completed_of completing last_asked SaysItself
says_completed centroids order passes stars candidate scale =
    says_itself_ask (centroids_fit centroids) 1 refl _
    (says_itself_ask (coordinates_fit centroids) 2 refl _
    (says_itself_ask (order_fits order centroids) 3 refl _
    (says_itself_ask (passes_fit passes) 5 refl _
    (says_itself_ask (stars_fit stars) 7 refl _
    (says_itself_ask (candidate_fits order passes candidate scale) 14 refl _
    (says_itself_ask (four_valid stars candidate.stars) 9 refl _
    (says_itself_vectors (image_vectors centroids order candidate.places (scale_of passes candidate scale)) stars candidate)))))))

-- The first promise of `complete` implies its second.
pub and_said : (centroids : List Float) (order : List ℕ) (passes stars : List Float) (candidate : Candidate) (scale : Float) (r : Result Completed Question) → r ≡ completed_of centroids order passes stars candidate scale → (r ≡ completed_of centroids order passes stars candidate scale) × (completed_says r ≡ completing centroids order passes stars candidate scale)
and_said centroids order passes stars candidate scale r h = (h, ap completed_says h ∙ says_completed centroids order passes stars candidate scale)

-- Where completing is done, a question was answered yes and completing is done from the next question on.
yes : (t : Bool) (n : ℕ) (a : Answer) → is_ok (completed_as (ask t (refused n) a)) ≡ true → (t ≡ true) × (is_ok (completed_as a) ≡ true)
yes true n a h = (refl, h)
yes false n a h = absurd (let z : ◌≡◌ {A = ℕ} 0 1 = cc in omega arith)

module _ (centroids : List Float) (order : List ℕ) (passes stars : List Float) (candidate : Candidate) (scale : Float) where
  done_asked : is_ok (completed_of centroids order passes stars candidate scale) ≡ true → Asked centroids order passes stars candidate scale
  unfolding completed_of completing last_asked
  done_asked h =
      let y1 = yes (centroids_fit centroids) 1 _ h in
      let y2 = yes (coordinates_fit centroids) 2 _ y1.1 in
      let y3 = yes (order_fits order centroids) 3 _ y2.1 in
      let y5 = yes (passes_fit passes) 5 _ y3.1 in
      let y7 = yes (stars_fit stars) 7 _ y5.1 in
      let y14 = yes (candidate_fits order passes candidate scale) 14 _ y7.1 in
      let y9 = yes (four_valid stars candidate.stars) 9 _ y14.1 in
      record { one = y1.0; two = y2.0; three = y3.0; five = y5.0; seven = y7.0; fourteen = y14.0; nine = y9.0 }

  asked_done : Asked centroids order passes stars candidate scale → is_ok (completed_of centroids order passes stars candidate scale) ≡ true
  unfolding completed_of completing last_asked
  asked_done a = rw (a.one, a.two, a.three, a.five, a.seven, a.fourteen, a.nine)

pub done_exactly : DoneExactly
done_exactly centroids order passes stars candidate scale =
    (done_asked centroids order passes stars candidate scale, asked_done centroids order passes stars candidate scale)
