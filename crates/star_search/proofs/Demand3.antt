-- A list of calls through C answers as the list of calls of the search itself, so demand 3 holds through C. Assumes nothing.
use mathlib.Core.Path.{◌≡◌, refl, sym, ap, ap₂, ◌∙◌, subst}
use Prim.Native.Nat.{ℕ, zero, suc, ◌<◌}
use native.Mathlib.Omega.{arith}
use mathlib.Core.Bool.{Bool, true, false, cond}
use mathlib.Core.Logic.{◌⊎◌, inl, inr}
use Rattle.std.specs.Prelude.{Option, None, Some}
use lib.Dec.{eqb}
use lib.ListN.{take, drop}
use borrow.Author.Tests.{eqb-true}
use mathlib.Core.List.{List, [], ◌∷◌, map}
use Rattle.candidates.specs.declared.entry_tests.Candidate.{Candidate}
use Rattle.undivided_run.specs.declared.state.State.{State}
use Rattle.undivided_run.specs.declared.state.Position.{Position}
use Rattle.undivided_run.specs.declared.state.Status.{Status}
use Rattle.undivided_run.specs.declared.state.Next.TheVariants.{Goes, Ends}
use Rattle.undivided_run.specs.Undivided.{Run}
use Rattle.undivided_run.specs.Calls.{Answer, candidate, used, over, refused, Machine, tried, found}
use Rattle.undivided_run.specs.Demand3.{Leaves, NoReadMade}
use Rattle.undivided_run.specs.Step.{Lent, start, search_call}
use Rattle.undivided_run.proofs.Demand3.{refused_keeps}
use Rattle.undivided_run.proofs.Progress.{zero_keeps}
use Rattle.search_questions.specs.Questions.{first_no}
use Rattle.pattern_search.specs.Answers.{lent_of, said, searched, searched_says}
use Rattle.pattern_search.specs.Demand3.{lent_by, returned, answers_of, replies, last_state, run}
use Rattle.pattern_search.proofs.Answers.{first_asks}
use Rattle.pattern_search.proofs.Demand3.{listed}
use Rattle.c_types.specs.State.{unknown, state_of}
use Rattle.undivided_run.specs.StatusNumber.{status_number}
use Rattle.c_types.specs.Answer.{plain_numbers, state_numbers, candidate_numbers, answer_of}
use Rattle.star_search.specs.Call.{Call, given_by, answered}
use Rattle.star_search.specs.Demand3.{answers, last_raw, said_by, numbers_of, found_in, phase_on, SameCalls, ListedThroughC, ListedFromZero}
use Rattle.star_search.specs.Claims.{next_of, ZeroChangesNothing}
use Rattle.c_types.specs.declared.structs.StarState.{StarState}
use Rattle.c_types.specs.declared.structs.StarAnswer.{StarAnswer}
use Rattle.star_search.proofs.Tags.{state_back, zero_is_fresh}
use Rattle.star_search.proofs.RawState.{stage_number, shows}

-- ---- One call.
said_alike : (raw : StarState) (a : ℕ) (t : Answer Candidate × State) → said_by (answer_of raw a (searched t)) ≡ numbers_of (searched_says (searched t))
unfolding said
said_alike raw a (candidate x, s) = refl
said_alike raw a (used, s) = refl
said_alike raw a (over z, s) = refl
said_alike raw a (refused k, s) = refl

-- The state given back means the state that the search leaves. A refusal leaves what it received, and so does "allowance used" where the
-- allowance is 0.
left_alike : (raw : StarState) (a : ℕ) (t : Answer Candidate × State) → ((k : ℕ) → t.0 ≡ refused k → t.1 ≡ state_of raw) → (a ≡ 0 → t.0 ≡ used → t.1 ≡ state_of raw) → state_of (answer_of raw a (searched t)).state ≡ t.1
unfolding said
left_alike raw a (candidate x, s) h z = state_back s
left_alike raw a (used, s) h z = by (eqb a 0) refl
  where
    by : (b : Bool) → eqb a 0 ≡ b → state_of (cond b raw (state_numbers s)) ≡ s
    by true e = sym (z (eqb-true _ _ e) refl)
    by false e = state_back s
left_alike raw a (over o, s) h z = state_back s
left_alike raw a (refused k, s) h z = sym (h k refl)

-- With allowance 0, a call that answers "allowance used" leaves the state received.
used_keeps : (st : State) (x : Lent (List ℕ) Candidate) (t : Answer Candidate × State) → NoReadMade st x t → t.0 ≡ used → t.1 ≡ st
used_keeps st x t (inl (k, n, e)) u = ap (λ t. t.1) e
used_keeps st x t (inr (inl (n, s, e, o))) u = absurd (let y : ◌≡◌ {A = ℕ} 0 1 = cc in omega arith)
used_keeps st x t (inr (inr (n, r, e, o))) u = ap (λ t. t.1) o

one_left : (raw : StarState) (g : Call) → state_of (answered raw g).state ≡ (returned (state_of raw) (given_by g)).state
one_left raw g =
    let st = state_of raw in
    let x = lent_by (given_by g) in
    left_alike raw g.allowance (search_call st x) (refused_keeps st x) (λ z. used_keeps st x (search_call st x) (zero_keeps st x (unfold lent_of in z)))

-- ---- Calls with allowance 0.
module _ (raw : StarState) (g : Call) (z : g.allowance ≡ 0) where
  abbrev answered_by : Answer Candidate × State → StarAnswer
  answered_by t = answer_of raw g.allowance (searched t)

  zero_shown : (t : Answer Candidate × State) → NoReadMade (state_of raw) (lent_by (given_by g)) t
      → ((k : ℕ) × (first_no (given_by g).lent_data (state_of raw) ≡ Some k) × ((answered_by t).answer ≡ 3) × ((answered_by t).number ≡ k) × ((answered_by t).state ≡ raw))
      ⊎ ((s : Status) × (next_of raw g ≡ Ends s) × ((answered_by t).answer ≡ 2) × ((answered_by t).number ≡ status_number s))
      ⊎ ((r : Position) × (next_of raw g ≡ Goes r) × ((answered_by t).answer ≡ 1) × ((answered_by t).state ≡ raw))
  unfolding said lent_of
  zero_shown t (inl (k, n, e)) = inl (k, n, ap (λ t. (answered_by t).answer) e, ap (λ t. (answered_by t).number) e ∙ first_asks (given_by g).lent_data (state_of raw) k n, ap (λ t. (answered_by t).state) e)
  zero_shown t (inr (inl (n, s, e, o))) = inr (inl (s, e, ap (λ t. (answered_by t).answer) o, ap (λ t. (answered_by t).number) o))
  zero_shown t (inr (inr (n, r, e, o))) = inr (inr (r, e, ap (λ t. (answered_by t).answer) o, ap (λ t. (answered_by t).state) o ∙ rw z))

pub zero_changes_nothing : ZeroChangesNothing
zero_changes_nothing raw g z =
    let x = lent_by (given_by g) in
    zero_shown raw g z (search_call (state_of raw) x) (zero_keeps (state_of raw) x (unfold lent_of in z))

-- ---- A list of calls.
pub same_answers : (raw : StarState) (gs : List Call) → map said_by (answers raw gs) ≡ map numbers_of (answers_of (replies (state_of raw) (map given_by gs)))
unfolding answers replies
same_answers raw [] = refl
same_answers raw (g ∷ gs) =
    ap₂ ◌∷◌ (said_alike raw g.allowance (search_call (state_of raw) (lent_by (given_by g))))
    (same_answers (answered raw g).state gs ∙ ap (λ st. map numbers_of (answers_of (replies st (map given_by gs)))) (one_left raw g))

pub same_last : (raw : StarState) (gs : List Call) → state_of (last_raw raw gs) ≡ last_state (state_of raw) (map given_by gs)
unfolding last_raw last_state
same_last raw [] = refl
same_last raw (g ∷ gs) = same_last (answered raw g).state gs ∙ ap (λ st. last_state st (map given_by gs)) (one_left raw g)

pub same_calls : SameCalls
same_calls raw gs = (same_answers raw gs, same_last raw gs)

-- ---- Demand 3.
found_numbers : (l : List (Answer Candidate)) → found_in (map numbers_of l) ≡ map candidate_numbers (found l)
unfolding found_in found
found_numbers [] = refl
found_numbers (candidate x ∷ l) = ap (candidate_numbers x ∷◌) (found_numbers l)
found_numbers (used ∷ l) = found_numbers l
found_numbers (over s ∷ l) = found_numbers l
found_numbers (refused k ∷ l) = found_numbers l

-- A state whose combinations are those tried in its reads isn't the one that an unknown tag becomes: with no read there is no combination.
not_unknown : (rs : List Position) (st : State) → st.patterns ≡ tried (take st.reads rs) → st ≡ unknown → ⊥
unfolding unknown tried
not_unknown rs st e u = absurd (omega (arith, subst (λ (z : State). z.patterns ≡ tried (take z.reads rs)) u e))

phase_agrees : (run : Run) (m : Machine) (st : State) → Leaves run m st → stage_number st.phase ≡ phase_on m.final m.taken
phase_agrees run m st l = by m.final refl m.taken refl
  where
    by : (o : Option Status) → m.final ≡ o → (n : ℕ) → m.taken ≡ n → stage_number st.phase ≡ phase_on o n
    by (Some s) e n f = ap stage_number (l.ended s e)
    by None e zero f = ap stage_number (l.unread e f)
    by None e (suc n) f = ap stage_number (l.onward e (omega arith)).3

-- Phase 1 is that of a machine which has not ended and took at least one read.
next_on : (o : Option Status) (n : ℕ) → phase_on o n ≡ 1 → (o ≡ None) × (0 < n)
next_on (Some s) n h = absurd (omega (arith, h))
next_on None zero h = absurd (omega (arith, h))
next_on None (suc n) h = (refl, omega arith)

pub listed_through_c : ListedThroughC
listed_through_c D o raw e gs h =
    let l = listed D o (map given_by gs) h in
    let z : state_of (last_raw raw gs) ≡ last_state start (map given_by gs) = same_last raw gs ∙ ap (λ st. last_state st (map given_by gs)) e in
    let w = shows (last_raw raw gs) (last_state start (map given_by gs)) z (not_unknown (run D).reads _ l.patterns) in
    let a : map said_by (answers raw gs) ≡ map numbers_of (answers_of (replies start (map given_by gs))) = same_answers raw gs ∙ ap (λ st. map numbers_of (answers_of (replies st (map given_by gs)))) e in
    let p = w.phase ∙ phase_agrees _ _ _ l.leaves in
    record {
      answers_are = a ∙ ap (map numbers_of) l.answers;
      found_in_order = ap found_in a ∙ found_numbers _ ∙ ap (map candidate_numbers) l.found_in_order ∙ rw w.reads;
      reads = w.reads ∙ l.reads;
      patterns = w.patterns ∙ l.patterns ∙ rw w.reads;
      phase = p;
      status = λ s f. w.status s (l.leaves.ended s f);
      next_position = λ f.
          let q = next_on _ _ (sym p ∙ f) in
          let k = l.leaves.onward q.0 q.1 in
          (k.0, k.1, ap (λ n. drop n (run D).reads) (w.reads ∙ l.reads) ∙ k.2, w.place k.0 k.3);
      state = z;
    }

pub listed_from_zero : ListedFromZero
listed_from_zero D o gs h = listed_through_c D o (plain_numbers 0 0 0 0) zero_is_fresh gs h
