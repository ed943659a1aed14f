-- Demand 3 of the mission, said of the code: a list of calls of `search`, each given the state that the call before it left. Definitions only.
use Rattle.std.specs.Prelude.{◌≡◌, ℕ, ◌+◌, ◌≤◌, ◌<◌, ◌⊎◌, List, [], ◌∷◌, ◌++◌, map, true, take, drop}
use Rattle.std.specs.Prelude.{None, Some}
use Rattle.candidates.specs.declared.entry_tests.Candidate.{Candidate}
use Rattle.opening_check.specs.OpenCheck.{opening}
use Rattle.undivided_run.specs.declared.state.State.{State}
use Rattle.undivided_run.specs.declared.state.Status.{Status}
use Rattle.undivided_run.specs.declared.state.Position.{Position}
use Rattle.undivided_run.specs.declared.state.Next.TheVariants.{Ends}
use Rattle.undivided_run.specs.Undivided.{Run, gives, undivided}
use Rattle.undivided_run.specs.Calls.{Answer, Machine, candidate, used, over, tried, candidates, found}
use Rattle.undivided_run.specs.Step.{Lent, start, final, resume, first_read, valid_at, search_call, refusal_of}
use Rattle.undivided_run.specs.PositionExists.{ReadExists}
use Rattle.undivided_run.specs.Demand3.{Leaves, NoReadMade, on_run as runCalls}
use Rattle.search_feed.specs.Data.{Data}
use Rattle.search_feed.specs.Feed.{feed}
use Rattle.search_questions.specs.Questions.{first_seven}
use Rattle.pattern_search.specs.Answers.{lent_of, searched, searched_says, reply_says}
use Rattle.pattern_search.specs.declared.Searched.{Searched}

-- What one call is given beside the state: the data, settings and table, and the allowance.
pub record Given : Type 0 where
  pub lent_data : Data
  pub allowance : ℕ

-- What one call is lent, in the form that the definitions of undivided_run take.
abbrev pub lent_by : Given → Lent (List ℕ) Candidate
lent_by g = lent_of g.lent_data g.allowance

-- What `search` returns, as its contract says.
abbrev pub returned : State → Given → Searched
returned st g = searched (search_call st (lent_by g))

-- What the calls of a list return, each given the state that the call before it left.
unfoldable pub replies : State → List Given → List Searched
replies st [] = []
replies st (g ∷ gs) = returned st g ∷ replies (returned st g).state gs

-- The state that the last call of a list leaves.
unfoldable pub last_state : State → List Given → State
last_state st [] = st
last_state st (g ∷ gs) = last_state (returned st g).state gs

-- The answers of document 01 that these replies stand for.
abbrev pub answers_of : List Searched → List (Answer Candidate)
answers_of rs = map searched_says rs

module _ (D : Data) where
  -- The calls are given, "all not refused the same data, settings and table", which are D; a refused call may be given anything.
  abbrev pub AllSame : State → List Given → Type 0
  AllSame st [] = Unit {0}
  AllSame st (g ∷ gs) = (refusal_of st (lent_by g) ≡ None → g.lent_data ≡ D) × AllSame (returned st g).state gs

  -- The undivided run of what D holds.
  abbrev pub run : Run
  run = undivided (feed D) D.frame.config.cap

  -- The answers that document 01's calls on its undivided run give to this list of calls, and the machine after the last one.
  abbrev pub on_run : List Given → List (Answer Candidate) × Machine
  on_run gs = runCalls (feed D) D.frame.config.cap (map lent_by gs)

  -- "each answer, and after the list the candidates in order, the patterns and table reads counted and any final status, equal those that
  -- document 01's calls on its undivided run give"; `leaves` adds which state the list leaves.
  pub record Listed (gs : List Given) : Type 0 where
    -- The answers of the calls are those of document 01's calls on the run.
    pub answers : answers_of (replies start gs) ≡ (on_run gs).0
    -- The candidates among the answers are, in order, those of as many reads of the run as are counted.
    pub found_in_order : found (answers_of (replies start gs)) ≡ candidates (gives (feed D)) (take (last_state start gs).reads run.reads)
    -- The table reads counted are the reads that the machine took.
    pub reads : (last_state start gs).reads ≡ (on_run gs).1.taken
    -- The patterns counted are the combinations tried in those reads.
    pub patterns : (last_state start gs).patterns ≡ tried (take (last_state start gs).reads run.reads)
    -- The final status, if there is one, is that of the machine.
    pub status : final (last_state start gs).phase ≡ (on_run gs).1.final
    -- The state is the one that document 01 gives the machine after the list.
    pub leaves : Leaves run (on_run gs).1 (last_state start gs)

-- The table "passed the opening check".
abbrev pub Opens : Data → Type 0
Opens D = opening D.slots D.words D.packed D.stars ≡ None

-- Demand 3, for every list of calls from a fresh state over a table that passed the opening check: `listed`.
abbrev pub EveryList : Type 0
EveryList = (D : Data) → Opens D → (gs : List Given) → AllSame D start gs → Listed D gs

-- Demand 3 holds of every first part of such a list too, and the replies of that part are the first replies of the list. So what demand 3 says of the
-- state after a list, it says of the state after each call: `each_part`.
abbrev pub EachPart : Type 0
EachPart = (D : Data) → Opens D → (gs hs : List Given) → AllSame D start (gs ++ hs)
    → AllSame D start gs × Listed D gs × (replies start (gs ++ hs) ≡ replies start gs ++ replies (last_state start gs) hs)

-- After such a list, a call given the same data, settings and table is refused under no number, if questions 1 to 7 are answered yes:
-- `never_refused`.
abbrev pub NeverRefused : Type 0
NeverRefused = (D : Data) → Opens D → first_seven D.frame D.slots D.words D.stars ≡ None → (gs : List Given) → AllSame D start gs → (g : Given) → g.lent_data ≡ D → refusal_of (last_state start gs) (lent_by g) ≡ None

-- With the opening check passed and nothing else asked, such a call is not refused, or it is refused by one of questions 1 to 5:
-- `refused_at_most_five`.
abbrev pub RefusedAtMostFive : Type 0
RefusedAtMostFive = (D : Data) → Opens D → (gs : List Given) → AllSame D start gs → (g : Given) → g.lent_data ≡ D
    → (refusal_of (last_state start gs) (lent_by g) ≡ None) ⊎ ((k : ℕ) × (refusal_of (last_state start gs) (lent_by g) ≡ Some k) × (k ≤ 5))

-- "A call not refused and allowed a read reads a slot unless no read is left."; if none is left, it answers ended: `reads_a_slot`.
abbrev pub ReadsASlot : Type 0
ReadsASlot = (st : State) (g : Given) → refusal_of st (lent_by g) ≡ None → (0 < g.allowance)
    → (st.reads < (returned st g).state.reads)
    ⊎ ((s : Status) × (resume (first_read (feed g.lent_data) g.lent_data.frame.config.cap) st.phase ≡ Ends s) × (searched_says (returned st g) ≡ over s))

-- After a list of demand 3, a call not refused and allowed a read makes a read, or the run has no read after those counted and the call answers ended
-- with the run's status: `reads_on_the_run`.
abbrev pub ReadsOnTheRun : Type 0
ReadsOnTheRun = (D : Data) → Opens D → (gs : List Given) → AllSame D start gs → (g : Given) → g.lent_data ≡ D → refusal_of (last_state start gs) (lent_by g) ≡ None → (0 < g.allowance)
    → ((last_state start gs).reads < (returned (last_state start gs) g).state.reads)
    ⊎ ((drop (last_state start gs).reads (run D).reads ≡ []) × (searched_says (returned (last_state start gs) g) ≡ over (run D).status))

-- Where a call answers with a candidate, questions 1 to 7 are answered yes, and a read at numbers that exist, of a valid entry, gave it:
-- `candidate_read`.
abbrev pub CandidateRead : Type 0
CandidateRead = (st : State) (g : Given) (x : Candidate) → searched_says (returned st g) ≡ candidate x
    → (first_seven g.lent_data.frame g.lent_data.slots g.lent_data.words g.lent_data.stars ≡ None)
    × (r : Position) × ReadExists (feed g.lent_data) r × (valid_at (feed g.lent_data) r ≡ true) × (gives (feed g.lent_data) r ≡ Some x)

-- A call that answers "allowance used" made exactly its allowance of reads: `uses_its_allowance`.
abbrev pub UsesItsAllowance : Type 0
UsesItsAllowance = (st : State) (g : Given) → searched_says (returned st g) ≡ used → (returned st g).state.reads ≡ st.reads + g.allowance

-- "When no read is left the answer is ended, even with allowance 0; otherwise allowance 0 changes nothing.": `zero_allowance`.
abbrev pub ZeroAllowance : Type 0
ZeroAllowance = (st : State) (g : Given) → g.allowance ≡ 0 → NoReadMade st (lent_by g) (reply_says (returned st g))
