-- Demand 3 of the search: the proofs of the statements in specs/Demand3. Assumes nothing.
use mathlib.Core.Path.{◌≡◌, refl, sym, ◌∙◌, ap, ap₂, subst}
use Prim.Native.Nat.{ℕ, ◌≤◌, ◌<◌}
use mathlib.Core.Logic.{◌⊎◌, inl, inr}
use native.Mathlib.Omega.{arith}
use mathlib.Core.List.{List, [], ◌∷◌, ◌++◌, map}
use lib.ListN.{drop}
use mathlib.Core.Bool.{Bool, true, false, cond}
use Rattle.std.specs.Prelude.{Option, None, Some}
use Rattle.candidates.specs.declared.entry_tests.Candidate.{Candidate}
use Rattle.preprocess.specs.Questions.{centroids_fit, coordinates_fit}
use Rattle.preprocess.specs.BrightnessList.{order_fits}
use Rattle.settings.specs.Passes.{passes_fit}
use Rattle.pattern_entry.specs.FirstNo.{ask}
use Rattle.pattern_entry.specs.Stars.{stars_fit}
use Rattle.pattern_catalog.specs.Blocks.{table_fits}
use Rattle.search_feed.specs.Data.{settings_ok}
use Rattle.opening_check.proofs.Passed.{passed}
use Rattle.undivided_run.specs.declared.state.State.{State}
use Rattle.undivided_run.specs.declared.state.Status.{Status}
use Rattle.undivided_run.specs.declared.state.Next.TheVariants.{Ends}
use Rattle.undivided_run.proofs.Progress.{progress_any, used_exactly, zero_keeps}
use Rattle.undivided_run.specs.declared.state.Position.{Position}
use Rattle.undivided_run.specs.Undivided.{cases, gives}
use Rattle.undivided_run.specs.Calls.{candidate, over, refused, calls, found}
use Rattle.undivided_run.specs.Step.{Lent, start, resume, first_read, valid_at, search, search_call, refusal_of, question9_refuses}
use Rattle.undivided_run.specs.Demand3.{FedAlikeList, MovesOn, NoReadMade}
use Rattle.undivided_run.specs.PositionExists.{ReadExists, Keyed}
use Rattle.search_questions.specs.Question8.{state_fits}
use Rattle.undivided_run.proofs.Demand3.{KeyedList, demand3, moves_after, eight, never_nine}
use Rattle.search_questions.proofs.Question8.{eight_true, eight_holds}
use Rattle.undivided_run.proofs.CallSteps.{given_at}
use Rattle.search_feed.specs.Data.{Data}
use Rattle.search_feed.specs.Feed.{feed}
use Rattle.search_feed.proofs.WithinLimits.{every_combination_keyed, within_limits}
use Rattle.search_feed.proofs.OpenedValid.{opened_valid}
use Rattle.search_questions.specs.Questions.{first_seven, first_no}
use Rattle.pattern_search.specs.Answers.{lent_of, searched_says}
use Rattle.pattern_search.specs.Demand3.{Given, lent_by, returned, replies, last_state, answers_of, run, AllSame, Opens, EveryList, EachPart, NeverRefused, RefusedAtMostFive, ReadsASlot, ReadsOnTheRun, CandidateRead, UsesItsAllowance, ZeroAllowance}
use Rattle.pattern_search.proofs.Answers.{replied, says}
use Rattle.search_questions.proofs.Questions1To7.{seven_asked, seven_table}

-- ---- The replies stand for the answers of document 01's search calls.
replies_calls : (st : State) (gs : List Given) → answers_of (replies st gs) ≡ (calls search_call st (map lent_by gs)).0
unfolding replies calls
replies_calls st [] = refl
replies_calls st (g ∷ gs) = ap₂ ◌∷◌ (says st g) (replies_calls (returned st g).state gs)

last_calls : (st : State) (gs : List Given) → last_state st gs ≡ (calls search_call st (map lent_by gs)).1
unfolding last_state calls
last_calls st [] = refl
last_calls st (g ∷ gs) = last_calls (returned st g).state gs

-- ---- One call.
pub reads_a_slot : ReadsASlot
unfolding lent_of
reads_a_slot st g h p = by (progress_any st (lent_by g) h p)
  where
    by : (st.reads < (search_call st (lent_by g)).1.reads) ⊎ ((s : Status) × (resume (first_read (feed g.lent_data) g.lent_data.frame.config.cap) st.phase ≡ Ends s) × ((search_call st (lent_by g)).0 ≡ over s)) → (st.reads < (returned st g).state.reads) ⊎ ((s : Status) × (resume (first_read (feed g.lent_data) g.lent_data.frame.config.cap) st.phase ≡ Ends s) × (searched_says (returned st g) ≡ over s))
    by (inl l) = inl l
    by (inr (s, e, o)) = inr (s, e, says st g ∙ o)

pub uses_its_allowance : UsesItsAllowance
unfolding lent_of
uses_its_allowance st g h = used_exactly st (lent_by g) (sym (says st g) ∙ h)

pub zero_allowance : ZeroAllowance
zero_allowance st g z = subst (NoReadMade st (lent_by g)) (sym (replied st g)) (zero_keeps st (lent_by g) (unfold lent_of in z))

-- ---- Where a call is not refused, questions 1 to 7 are answered yes.
asked_none : (st : State) (x : Lent (List ℕ) Candidate) → refusal_of st x ≡ None → x.asked st ≡ None
unfolding refusal_of cases
asked_none st x h = by (x.asked st) h
  where
    by : (o : Option ℕ) → cases o (cond (question9_refuses st x) (Some 9) None) (λ k. Some k) ≡ None → o ≡ None
    by None e = refl
    by (Some k) e = absurd (let z : ◌≡◌ {A = ℕ} 0 1 = cc in omega arith)

seven_none : (D : Data) (st : State) → first_no D st ≡ None → first_seven D.frame D.slots D.words D.stars ≡ None
unfolding first_no cases
seven_none D st h = by (first_seven D.frame D.slots D.words D.stars) _ h
  where
    by : (o p : Option ℕ) → cases o p (λ n. Some n) ≡ None → o ≡ None
    by None p e = refl
    by (Some k) p e = absurd (let z : ◌≡◌ {A = ℕ} 0 1 = cc in omega arith)

module _ (D : Data) where
  keyed_by : (st : State) (g : Given) → g.lent_data ≡ D → refusal_of st (lent_by g) ≡ None → Keyed (feed D)
  unfolding lent_of
  keyed_by st g e h =
      let s = seven_none g.lent_data st (asked_none st (lent_by g) h) in
      subst (λ X. Keyed (feed X)) e (every_combination_keyed g.lent_data (seven_asked _ _ _ _ s))

  fed_alike : (st : State) (gs : List Given) → AllSame D st gs → FedAlikeList (feed D) D.frame.config.cap st (map lent_by gs)
  unfolding lent_of
  fed_alike st [] h = tt
  fed_alike st (g ∷ gs) h = (λ a. (ap (λ X. feed X) (h.0 a), ap (λ (X : Data). X.frame.config.cap) (h.0 a)), fed_alike (returned st g).state gs h.1)

  module _ (o : Opens D) where
    keyed : (st : State) (gs : List Given) → AllSame D st gs → KeyedList (feed D) D.frame.config.cap (opened_valid D o) st (map lent_by gs)
    keyed st [] h = tt
    keyed st (g ∷ gs) h = (λ a. keyed_by st g (h.0 a) a, keyed (returned st g).state gs h.1)

-- Demand 3 holds of every list of calls from a fresh state whose table passed the opening check, if all calls not refused are given the same.
pub listed : EveryList
listed D o gs h =
    let d = demand3 (feed D) D.frame.config.cap (opened_valid D o) (map lent_by gs) (fed_alike D start gs h) (keyed D o start gs h) in
    record {
      answers = replies_calls start gs ∙ d.answers;
      found_in_order = rw (last_calls start gs) (ap found (replies_calls start gs) ∙ d.found_in_order);
      reads = rw (last_calls start gs) d.reads;
      patterns = rw (last_calls start gs) d.patterns;
      status = rw (last_calls start gs) d.status;
      leaves = rw (last_calls start gs) d.leaves;
    }

-- ---- A first part of a list.
same_part : (D : Data) (st : State) (gs hs : List Given) → AllSame D st (gs ++ hs) → AllSame D st gs
same_part D st [] hs h = tt
same_part D st (g ∷ gs) hs h = (h.0, same_part D (returned st g).state gs hs h.1)

replies_part : (st : State) (gs hs : List Given) → replies st (gs ++ hs) ≡ replies st gs ++ replies (last_state st gs) hs
unfolding replies last_state
replies_part st [] hs = refl
replies_part st (g ∷ gs) hs = ap (returned st g ∷◌) (replies_part (returned st g).state gs hs)

pub each_part : EachPart
each_part D o gs hs h = let p = same_part D start gs hs h in (p, listed D o gs p, replies_part start gs hs)

-- ---- A call after such a list.
pub reads_on_the_run : ReadsOnTheRun
unfolding lent_of
reads_on_the_run D o gs h g e n p =
    by
    (rw (← last_calls start gs) at
    (moves_after (feed D) D.frame.config.cap (opened_valid D o) (keyed_by D (last_state start gs) g e n) (map lent_by gs) (fed_alike D start gs h) (lent_by g)
    (λ _. (ap (λ X. feed X) e, ap (λ (X : Data). X.frame.config.cap) e))
    (rw (last_calls start gs) at n)
    p))
  where
    st : State
    st = last_state start gs

    by : MovesOn (feed D) D.frame.config.cap (last_state start gs) (lent_by g) → (st.reads < (returned st g).state.reads) ⊎ ((drop st.reads (run D).reads ≡ []) × (searched_says (returned st g) ≡ over (run D).status))
    by (inl l) = inl l
    by (inr (z, w)) = inr (z, says st g ∙ w)

clear : (D : Data) (st : State) → first_seven D.frame D.slots D.words D.stars ≡ None → state_fits (feed D) st ≡ true → first_no D st ≡ None
unfolding first_no cases
clear D st s e = rw (s, e)

pub never_refused : NeverRefused
unfolding lent_of
never_refused D o s gs h g e =
    let q = seven_asked _ _ _ _ s in
    let st = last_state start gs in
    let z = eight (feed D) D.frame.config.cap (opened_valid D o) (every_combination_keyed D q) (within_limits D q (seven_table _ _ _ _ s)) (map lent_by gs) (fed_alike D start gs h) in
    let y : state_fits (feed D) st ≡ true = rw (last_calls start gs) (eight_holds (feed D) _ _ _ z) in
    never_nine (feed D) D.frame.config.cap (opened_valid D o) st (lent_by g) (ap (λ X. feed X) e)
    (subst (λ X. first_no X st ≡ None) (sym e) (clear D st s y))

-- ---- the read that a candidate was given by
eight_true_of : (D : Data) (st : State) → first_no D st ≡ None → state_fits (feed D) st ≡ true
unfolding first_no cases
eight_true_of D st h = by (first_seven D.frame D.slots D.words D.stars) (state_fits (feed D) st) h
  where
    by : (o : Option ℕ) (b : Bool) → cases o (ask b (Some 8) None) (λ n. Some n) ≡ None → b ≡ true
    by o true e = refl
    by None false e = absurd (let z : ◌≡◌ {A = ℕ} 0 1 = cc in omega arith)
    by (Some k) false e = absurd (let z : ◌≡◌ {A = ℕ} 0 1 = cc in omega arith)

pub candidate_read : CandidateRead
unfolding lent_of search_call cases
candidate_read st g x h = by (first_no g.lent_data st) refl (sym (says st g) ∙ h)
  where
    D : Data
    D = g.lent_data

    by : (o : Option ℕ) → first_no D st ≡ o → (cases o (search (feed D) D.frame.config.cap st g.allowance) λ k. (refused k, st)).0 ≡ candidate x → (first_seven D.frame D.slots D.words D.stars ≡ None) × (r : Position) × ReadExists (feed D) r × (valid_at (feed D) r ≡ true) × (gives (feed D) r ≡ Some x)
    by None n e =
        let s = seven_none D st n in
        let q = seven_asked _ _ _ _ s in
        let k = given_at (feed D) D.frame.config.cap (every_combination_keyed D q) x (within_limits D q (seven_table _ _ _ _ s)) st (eight_true (feed D) st.phase st.patterns st.reads (eight_true_of D st n)) g.allowance e in
        (s, k.0, k.1, k.2, k.3)
    by (Some k) n e = absurd (let z : ◌≡◌ {A = ℕ} 0 1 = cc in omega arith)

-- ---- What follows from the opening check alone.
refused_by : (D : Data) (st : State) (a k : ℕ) → first_seven D.frame D.slots D.words D.stars ≡ Some k → refusal_of st (lent_of D a) ≡ Some k
unfolding refusal_of lent_of first_no cases
refused_by D st a k s = rw s

-- Where questions 6 and 7 are answered yes, the first no of questions 1 to 7 is one of 1 to 5.
five_first : (a b c d e f g : Bool) → f ≡ true → g ≡ true → let o : Option ℕ = ask a (Some 1) (ask b (Some 2) (ask c (Some 3) (ask d (Some 4) (ask e (Some 5) (ask f (Some 6) (ask g (Some 7) None)))))) in (o ≡ None) ⊎ ((k : ℕ) × (o ≡ Some k) × (k ≤ 5))
five_first false b c d e f g p q = inr (1, refl, omega arith)
five_first true false c d e f g p q = inr (2, refl, omega arith)
five_first true true false d e f g p q = inr (3, refl, omega arith)
five_first true true true false e f g p q = inr (4, refl, omega arith)
five_first true true true true false f g p q = inr (5, refl, omega arith)
five_first true true true true true f g p q = inl (rw (p, q))

opened_seven : (D : Data) → Opens D → (first_seven D.frame D.slots D.words D.stars ≡ None) ⊎ ((k : ℕ) × (first_seven D.frame D.slots D.words D.stars ≡ Some k) × (k ≤ 5))
unfolding first_seven
opened_seven D o =
    let p = passed _ _ _ _ o in
    five_first (centroids_fit D.frame.centroids) (coordinates_fit D.frame.centroids) (order_fits D.frame.order D.frame.centroids) (settings_ok D.frame.config) (passes_fit D.frame.passes) (table_fits D.slots D.words) (stars_fit D.stars) p.fits p.sky

pub refused_at_most_five : RefusedAtMostFive
refused_at_most_five D o gs h g e = by (opened_seven D o)
  where
    by : (first_seven D.frame D.slots D.words D.stars ≡ None) ⊎ ((k : ℕ) × (first_seven D.frame D.slots D.words D.stars ≡ Some k) × (k ≤ 5)) → (refusal_of (last_state start gs) (lent_by g) ≡ None) ⊎ ((k : ℕ) × (refusal_of (last_state start gs) (lent_by g) ≡ Some k) × (k ≤ 5))
    by (inl s) = inl (never_refused D o s gs h g e)
    by (inr (k, s, l)) = inr (k, subst (λ X. refusal_of (last_state start gs) (lent_of X g.allowance) ≡ Some k) (sym e) (refused_by D (last_state start gs) g.allowance k s), l)
