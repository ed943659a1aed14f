-- A reply stands for the answer of document 01 that it was made from: a call is refused with a question's number only. Assumes nothing.
use mathlib.Core.Path.{◌≡◌, refl, sym, ◌∙◌, ap}
use Prim.Native.Nat.{ℕ}
use native.Mathlib.Omega.{arith}
use mathlib.Core.Bool.{Bool, true, false}
use Rattle.std.specs.Prelude.{Option, None, Some}
use Rattle.question.specs.Question.{number_of, question_of}
use Rattle.preprocess.specs.Questions.{centroids_fit, coordinates_fit}
use Rattle.preprocess.specs.BrightnessList.{order_fits}
use Rattle.settings.specs.Passes.{passes_fit}
use Rattle.pattern_entry.specs.FirstNo.{ask}
use Rattle.pattern_catalog.specs.Blocks.{table_fits}
use Rattle.pattern_entry.specs.Stars.{stars_fit}
use Rattle.candidates.specs.declared.entry_tests.Candidate.{Candidate}
use Rattle.undivided_run.specs.declared.state.State.{State}
use Rattle.undivided_run.specs.Undivided.{cases}
use Rattle.undivided_run.specs.Calls.{Answer, candidate, used, over, refused}
use Rattle.undivided_run.specs.Step.{search, search_call}
use Rattle.undivided_run.proofs.Progress.{search_refused}
use Rattle.search_feed.specs.Data.{Data, settings_ok}
use Rattle.search_feed.specs.Feed.{feed}
use Rattle.search_questions.specs.Question8.{state_fits}
use Rattle.search_questions.specs.Questions.{first_seven, first_no}
use Rattle.pattern_search.specs.Answers.{lent_of, said, searched, searched_says, reply_says}
use Rattle.pattern_search.specs.Demand3.{Given, lent_by, returned}
use Rattle.pattern_search.specs.declared.Searched.{Searched}

-- Where the answer is a refusal, its number is a question's.
abbrev Numbered : Answer Candidate × State → Type 0
Numbered t = (n : ℕ) → t.0 ≡ refused n → number_of (question_of n) ≡ n

replied_by : (t : Answer Candidate × State) → Numbered t → reply_says (searched t) ≡ t
unfolding said
replied_by (candidate x, s) h = refl
replied_by (used, s) h = refl
replied_by (over z, s) h = refl
replied_by (refused k, s) h = ap (λ n. (refused n, s)) (h k refl)

-- ---- Questions 1 to 8.
abbrev pub Asks : Option ℕ → Type 0
Asks o = (k : ℕ) → o ≡ Some k → number_of (question_of k) ≡ k

none_asks : Asks None
none_asks k e = absurd (let z : ◌≡◌ {A = ℕ} 0 1 = cc in omega arith)

ask_asks : (b : Bool) (n : ℕ) (o : Option ℕ) → number_of (question_of n) ≡ n → Asks o → Asks (ask b (Some n) o)
ask_asks true n o h a k e = a k e
ask_asks false n o h a k e = let z : n ≡ k = cc in rw z at h

seven_asks : (D : Data) → Asks (first_seven D.frame D.slots D.words D.stars)
unfolding first_seven
seven_asks D =
    ask_asks (centroids_fit D.frame.centroids) 1 _ refl
    (ask_asks (coordinates_fit D.frame.centroids) 2 _ refl
    (ask_asks (order_fits D.frame.order D.frame.centroids) 3 _ refl
    (ask_asks (settings_ok D.frame.config) 4 _ refl
    (ask_asks (passes_fit D.frame.passes) 5 _ refl
    (ask_asks (table_fits D.slots D.words) 6 _ refl
    (ask_asks (stars_fit D.stars) 7 _ refl none_asks))))))

-- A number with which questions 1 to 8 refuse a call is a question's.
pub first_asks : (D : Data) (st : State) → Asks (first_no D st)
unfolding first_no cases
first_asks D st = by (first_seven D.frame D.slots D.words D.stars) (seven_asks D)
  where
    by : (o : Option ℕ) → Asks o → Asks (cases o (ask (state_fits (feed D) st) (Some 8) None) λ n. Some n)
    by None a = ask_asks (state_fits (feed D) st) 8 None refl none_asks
    by (Some n) a = a

-- ---- The whole call.
numbered : (st : State) (g : Given) → Numbered (search_call st (lent_by g))
unfolding search_call lent_of cases
numbered st g n e = by (first_no g.lent_data st) refl e
  where
    by : (o : Option ℕ) → first_no g.lent_data st ≡ o → (cases o (search (feed g.lent_data) g.lent_data.frame.config.cap st g.allowance) λ k. (refused k, st)).0 ≡ refused n → number_of (question_of n) ≡ n
    by None o e = let z : 9 ≡ n = search_refused (feed g.lent_data) g.lent_data.frame.config.cap st g.allowance n e in ap (λ k. number_of (question_of k)) (sym z) ∙ z
    by (Some k) o e = let z : k ≡ n = cc in rw z at (first_asks g.lent_data st k o)

pub replied : (st : State) (g : Given) → reply_says (returned st g) ≡ search_call st (lent_by g)
replied st g = replied_by (search_call st (lent_by g)) (numbered st g)

pub says : (st : State) (g : Given) → searched_says (returned st g) ≡ (search_call st (lent_by g)).0
says st g = ap (λ z. z.0) (replied st g)

-- An equation of a reply gives both promises of `search`.
pub and_said : (st : State) (g : Given) (r : Searched) → r ≡ returned st g → (r ≡ returned st g) × (reply_says r ≡ search_call st (lent_by g))
and_said st g r h = (h, ap reply_says h ∙ replied st g)
