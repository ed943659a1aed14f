-- The search call of document 01, and its answer in the form that the code returns. Definitions only.
use Rattle.std.specs.Prelude.{ℕ, List, Result, Ok, Err}
use Rattle.question.specs.Question.{number_of, question_of}
use Rattle.question.specs.declared.Question.{Question}
use Rattle.candidates.specs.declared.entry_tests.Candidate.{Candidate}
use Rattle.undivided_run.specs.declared.state.State.{State}
use Rattle.undivided_run.specs.Calls.{Answer, candidate, used, over, refused}
use Rattle.undivided_run.specs.Step.{Lent}
use Rattle.search_feed.specs.Data.{Data}
use Rattle.search_feed.specs.Feed.{feed}
use Rattle.search_questions.specs.Questions.{first_no}
use Rattle.pattern_search.specs.declared.Searched.{Searched}
use Rattle.pattern_search.specs.declared.Answer.{Answer as Said}
use Rattle.pattern_search.specs.declared.Answer.TheVariants.{Candidate as SaidCandidate, AllowanceUsed, Ended}

-- What a call with this data and this allowance is lent: what the run is fed, its cap, the allowance, and questions 1 to 8.
unfoldable pub lent_of : Data → ℕ → Lent (List ℕ) Candidate
lent_of D allowance = record { feed = feed D; cap = D.frame.config.cap; allowance = allowance; asked = first_no D }

-- How each answer of document 01 is returned: a candidate, the allowance used, ended with a status, or refused with a question.
unfoldable pub said : Answer Candidate → Result Said Question
said (candidate x) = Ok (SaidCandidate x)
said used = Ok AllowanceUsed
said (over s) = Ok (Ended s)
said (refused n) = Err (question_of n)

-- What the code returns for an answer and the state that the call leaves.
abbrev pub searched : Answer Candidate × State → Searched
searched t = record { answer = said t.0; state = t.1 }

-- The answer of document 01 that a result stands for.
abbrev pub answer_says : Result Said Question → Answer Candidate
answer_says (Ok (SaidCandidate x)) = candidate x
answer_says (Ok AllowanceUsed) = used
answer_says (Ok (Ended s)) = over s
answer_says (Err q) = refused (number_of q)

-- The answer of document 01 that a reply stands for.
abbrev pub searched_says : Searched → Answer Candidate
searched_says r = answer_says r.answer

-- The answer of document 01 that a reply stands for, with the state that the call leaves.
abbrev pub reply_says : Searched → Answer Candidate × State
reply_says r = (searched_says r, r.state)
