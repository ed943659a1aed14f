-- A search call: the questions, then the reads. Assumes nothing.
use mathlib.Core.Path.{◌≡◌, sym, ◌∙◌, ap, subst}
use Prim.Native.Nat.{ℕ, ◌<◌}
use mathlib.Core.Bool.{Bool, true, false}
use Rattle.std.specs.Prelude.{Option, None, Some, Result, Err}
use Rattle.candidates.specs.declared.entry_tests.Candidate.{Candidate}
use Rattle.undivided_run.specs.declared.state.State.{State}
use Rattle.undivided_run.specs.declared.state.Cursor.{Cursor}
use Rattle.undivided_run.specs.declared.state.Next.{Next}
use Rattle.undivided_run.specs.Undivided.{cases}
use Rattle.undivided_run.specs.Calls.{Answer}
use Rattle.undivided_run.specs.Step.{resume, first_read, zero_call, search, search_call}
use Rattle.search_questions.specs.Question8.{state_fits}
use Rattle.undivided_run.specs.CallInvariant.{CallInvariant, continuing}
use Rattle.search_questions.proofs.Question8.{eight_true}
use Rattle.undivided_run.proofs.CallSteps.{begun, begun_good, search_zero, search_run}
use Rattle.search_feed.specs.Data.{Data}
use Rattle.search_feed.specs.Feed.{feed}
use Rattle.search_cache.specs.Cache.{PassCacheValid, CombinationCacheValid}
use Rattle.search_cache.specs.declared.pass.Cache.{Cache}
use Rattle.search_feed.proofs.WithinLimits.{every_combination_keyed, within_limits}
use Rattle.search_questions.specs.Questions.{first_seven, first_no}
use Rattle.pattern_search.specs.Answers.{lent_of, said, searched}
use Rattle.pattern_search.specs.Iteration.{Ready}
use Rattle.pattern_search.specs.declared.Searched.{Searched}
use Rattle.question.specs.Question.{number_of, refused_by}
use Rattle.question.specs.declared.Question.{Question}
use Rattle.question.specs.declared.Question.TheVariants.{SavedState}
use Rattle.question.proofs.Numbers.{question_again}
use Rattle.search_questions.proofs.Questions1To7.{seven_asked, seven_table}

module _ (D : Data) (st : State) (a : ℕ) where
  abbrev seven : Option ℕ
  seven = first_seven D.frame D.slots D.words D.stars

  abbrev answer : Answer Candidate × State
  answer = search_call st (lent_of D a)

  -- One of questions 1 to 7 refuses the call.
  pub call_seven : (q : Question) (x : Result (Unit {0}) Question) → refused_by x ≡ seven → x ≡ Err q → record { answer = Err q; state = st } ≡ searched answer
  unfolding search_call lent_of first_no cases said
  call_seven q x xe e =
      let s : seven ≡ Some (number_of q) = sym xe ∙ ap refused_by e in
      rw s (ap (λ z. record { answer = Err z; state = st }) (sym (question_again q)))

  module _ (s : seven ≡ None) (b : Bool) (be : b ≡ state_fits (feed D) st) where
    -- Question 8 refuses the call.
    pub call_eight : b ≡ false → record { answer = Err SavedState; state = st } ≡ searched answer
    unfolding search_call lent_of first_no cases said
    call_eight e =
        let o : state_fits (feed D) st ≡ false = sym be ∙ e in
        rw (s, o)

    module _ (e : b ≡ true) where
      passed : answer ≡ search (feed D) D.frame.config.cap st a
      unfolding search_call lent_of first_no cases
      passed =
          let o : state_fits (feed D) st ≡ true = sym be ∙ e in
          rw (s, o)

      module _ (n : Next) (ne : n ≡ resume (first_read (feed D) D.frame.config.cap) st.phase) where
        pub call_zero : a ≡ 0 → (y : Searched) → y ≡ searched (zero_call st n) → y ≡ searched answer
        call_zero z y ye = ye ∙ ap searched (ap (zero_call st) ne ∙ sym (search_zero (feed D) D.frame.config.cap st) ∙ ap (search (feed D) D.frame.config.cap st) (sym z) ∙ sym passed)

        abbrev cursor : Cursor
        cursor = record { next = n; patterns = st.patterns; reads = st.reads }

        cursor_begun : cursor ≡ begun (feed D) D.frame.config.cap st
        cursor_begun = rw ne

        pub call_run : 0 < a → (y : Searched) → y ≡ searched (continuing (feed D) D.frame.config.cap st a cursor) → y ≡ searched answer
        call_run p y ye = ye ∙ ap searched (ap (continuing (feed D) D.frame.config.cap st a) cursor_begun ∙ sym (search_run (feed D) D.frame.config.cap st a p) ∙ sym passed)

        -- The call is ready for its first read.
        pub ready : (h : Cache) → PassCacheValid D.frame h → CombinationCacheValid D.frame h → Ready D cursor h
        ready h p f =
            let q = seven_asked D.frame D.slots D.words D.stars s in
            let t = seven_table D.frame D.slots D.words D.stars s in
            record {
              asked = q;
              table = t;
              good = subst (CallInvariant (feed D) D.frame.config.cap) (sym cursor_begun) (begun_good (feed D) D.frame.config.cap (every_combination_keyed D q) (within_limits D q t) st (eight_true (feed D) st.phase st.patterns st.reads (sym be ∙ e)));
              pass = p;
              four = f;
            }
