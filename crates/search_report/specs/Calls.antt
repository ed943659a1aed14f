-- What a search is lent, what one call returns, and the state after the calls of a whole search. Definitions only.
use Rattle.std.specs.Prelude.{ℕ, zero, suc, Bool, true, false, cond, Result, Ok, Err}
use Rattle.question.specs.declared.Question.{Question}
use Rattle.undivided_run.specs.declared.state.State.{State}
use Rattle.search_feed.specs.Data.{Data}
use Rattle.search_feed.specs.Lent.{data_in}
use Rattle.search_report.specs.declared.data.Data.{Data as Lent}
use Rattle.pattern_search.specs.declared.Answer.{Answer}
use Rattle.pattern_search.specs.declared.Answer.TheVariants.{Candidate, AllowanceUsed, Ended}
use Rattle.pattern_search.specs.declared.Searched.{Searched}
use Rattle.pattern_search.specs.Demand3.{returned}

-- What a search is fed by the data that it is lent.
abbrev pub lent : Lent → Data
lent d = data_in d.frame d.table

-- What one call of the search returns, given its data, a state and an allowance.
abbrev pub called : Data → State → ℕ → Searched
called D st allowance = returned st (record { lent_data = D; allowance = allowance })

-- Whether a call was let through by the questions.
unfoldable pub let_through : Result Answer Question → Bool
let_through (Ok a) = true
let_through (Err q) = false

-- Whether a search goes on after a call. It doesn't where the call ended it or was refused.
unfoldable pub continuing : Result Answer Question → Bool
continuing (Ok (Candidate c)) = true
continuing (Ok AllowanceUsed) = true
continuing (Ok (Ended s)) = false
continuing (Err q) = false

-- The state after a whole search. Its calls have an allowance of `reads` reads each, and every one is given the state that the one before
-- left, until one ends the search or is refused. `most` is the number of calls that may be made.
unfoldable pub searched_from : Data → ℕ → ℕ → State → State
searched_from D reads zero st = st
searched_from D reads (suc most) st =
    let r = called D st reads in
    cond (continuing r.answer) (searched_from D reads most r.state) r.state
