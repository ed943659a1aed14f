-- The answers of completing in document 01's words, and how `complete` returns each of them. Definitions only.
use Rattle.std.specs.Prelude.{ℕ, List, Float, Result, Ok, Err}
use Rattle.question.specs.Question.{number_of, question_of}
use Rattle.question.specs.declared.Question.{Question}
use Rattle.complete.specs.declared.completing.Completed.{Completed}

-- Document 01's answer: completing "gives the four image vectors in matched order beside the four star vectors", or it is refused with the
-- number of the question that refuses.
pub data Answer : Type 0 where
  vectors : List (List Float) → List (List Float) → Answer
  refused : ℕ → Answer

-- How `complete` returns an answer.
abbrev pub completed_as : Answer → Result Completed Question
completed_as (vectors image stars) = Ok (record { image = image; stars = stars })
completed_as (refused n) = Err (question_of n)

-- The answer that a result of `complete` stands for.
abbrev pub completed_says : Result Completed Question → Answer
completed_says (Ok r) = vectors r.image r.stars
completed_says (Err q) = refused (number_of q)
