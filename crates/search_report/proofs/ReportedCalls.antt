-- The state after the calls of a search. Assumes nothing.
use mathlib.Core.Path.{◌≡◌, refl, sym, ap, ◌∙◌}
use Prim.Native.Nat.{ℕ, zero, suc, ◌-◌, ◌<◌, ◌≤◌}
use native.Mathlib.Omega.{arith}
use mathlib.Core.Bool.{Bool, true, false, false≢true}
use Rattle.std.specs.Prelude.{Option, None, Some, Result, Ok, Err}
use Rattle.question.specs.declared.Question.{Question}
use Rattle.pattern_search.specs.declared.Answer.{Answer as Said}
use Rattle.pattern_search.specs.declared.Searched.{Searched}
use Rattle.candidates.specs.declared.entry_tests.Candidate.{Candidate as Found}
use Rattle.undivided_run.specs.declared.state.State.{State}
use Rattle.undivided_run.specs.Undivided.{cases}
use Rattle.undivided_run.specs.Calls.{Answer, refused}
use Rattle.undivided_run.specs.declared.state.Next.{Next}
use Rattle.undivided_run.specs.declared.state.Next.TheVariants.{Goes, Ends}
use Rattle.undivided_run.specs.Step.{zero_call, resume, first_read, call, search, search_call}
use Rattle.search_feed.specs.Data.{Data}
use Rattle.search_feed.specs.Feed.{feed}
use Rattle.search_questions.specs.Questions.{first_no}
use Rattle.pattern_search.specs.Answers.{lent_of, said}
use Rattle.search_report.specs.Calls.{called, let_through, continuing, searched_from}

-- A call with allowance 0 that the questions let through is not refused.
zero_through : (st : State) (w : Next) → let_through (said (zero_call {C = Found} st w).0) ≡ true
unfolding zero_call said let_through
zero_through st (Goes r) = refl
zero_through st (Ends s) = refl

-- An answer that is no refusal is that of a call which was let through.
pub others_through : (a : Result Said Question) → ((q : Question) → a ≡ Err q → ⊥) → let_through a ≡ true
unfolding let_through
others_through (Ok a) h = refl
others_through (Err q) h = absurd (h q refl)

-- What a call answers and leaves, by the number of the first no among questions 1 to 8.
abbrev answered : Data → State → ℕ → Option ℕ → Answer Found × State
answered D st a o = cases o (search (feed D) D.frame.config.cap st a) λ k. (refused k, st)

refused_by : (D : Data) (st : State) (a : ℕ) (o : Option ℕ) → let_through (said (answered D st 0 o).0) ≡ false → (continuing (said (answered D st a o).0) ≡ false) × ((answered D st a o).1 ≡ st)
unfolding cases search call said let_through continuing
refused_by D st a None e = absurd (false≢true (sym e ∙ zero_through st (resume (first_read (feed D) D.frame.config.cap) st.phase)))
refused_by D st a (Some k) e = (refl, refl)

-- A call that is refused with allowance 0 is refused with any allowance, and leaves the state received.
pub refused_any : (D : Data) (st : State) (a : ℕ) → let_through (called D st 0).answer ≡ false → (continuing (called D st a).answer ≡ false) × ((called D st a).state ≡ st)
unfolding search_call lent_of
refused_any D st a h = refused_by D st a (first_no D st) h

-- A search whose call with allowance 0 is refused leaves the state received.
pub refused_whole : (D : Data) (reads most : ℕ) (st : State) → let_through (called D st 0).answer ≡ false → searched_from D reads most st ≡ st
unfolding searched_from
refused_whole D reads zero st h = refl
refused_whole D reads (suc most) st h = let (g, s) = refused_any D st reads h in rw g s

-- The first call of a search, followed by the rest of it.
first_goes_on : (D : Data) (reads n : ℕ) (st : State) → 0 < n → continuing (called D st reads).answer ≡ true → searched_from D reads (n - 1) (called D st reads).state ≡ searched_from D reads n st
unfolding searched_from
first_goes_on D reads zero st l g = absurd (omega arith)
first_goes_on D reads (suc n) st l g = let k : suc n - 1 ≡ n = omega arith in rw (g, k) refl

first_ends : (D : Data) (reads n : ℕ) (st : State) → 0 < n → continuing (called D st reads).answer ≡ false → searched_from D reads 0 (called D st reads).state ≡ searched_from D reads n st
unfolding searched_from
first_ends D reads zero st l g = absurd (omega arith)
first_ends D reads (suc n) st l g = rw g refl

-- The first call of a search, followed by the rest of it, where r is what the call returned.
module _ (D : Data) (reads most : ℕ) (st : State) (r : Searched) (e : r ≡ called D st reads) (some_left : 0 < most) where
  answer_is : (b : Bool) → continuing r.answer ≡ b → continuing (called D st reads).answer ≡ b
  answer_is b g = ap (λ (z : Searched). continuing z.answer) (sym e) ∙ g

  pub one_goes_on : continuing r.answer ≡ true → searched_from D reads (most - 1) r.state ≡ searched_from D reads most st
  one_goes_on g = ap (λ (z : Searched). searched_from D reads (most - 1) z.state) e ∙ first_goes_on D reads most st some_left (answer_is true g)

  pub one_ends : continuing r.answer ≡ false → searched_from D reads 0 r.state ≡ searched_from D reads most st
  one_ends g = ap (λ (z : Searched). searched_from D reads 0 z.state) e ∙ first_ends D reads most st some_left (answer_is false g)

-- Where no more calls may be made, the state stays as it is.
pub none_left : (D : Data) (reads n : ℕ) (st : State) → n ≤ 0 → st ≡ searched_from D reads n st
unfolding searched_from
none_left D reads zero st l = refl
none_left D reads (suc n) st l = absurd (omega arith)
