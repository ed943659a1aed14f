-- A list of search calls from a fresh state, and what demand 3 of the mission says of it. Definitions only.
use Rattle.std.specs.Prelude.{◌≡◌, ℕ, ◌+◌, ◌<◌, ◌⊎◌, List, [], ◌∷◌, take, drop}
use Rattle.std.specs.Prelude.{Option, None, Some}
use Rattle.undivided_run.specs.declared.state.Status.{Status}
use Rattle.undivided_run.specs.Undivided.{Cap}
use Rattle.undivided_run.specs.declared.state.Position.{Position as Read}
use Rattle.undivided_run.specs.declared.state.Next.TheVariants.{Goes as goes, Ends as ends}
use Rattle.undivided_run.specs.declared.state.Phase.TheVariants.{Fresh as new, At as at, Ended as done}
use Rattle.undivided_run.specs.declared.state.State.{State}
use Rattle.undivided_run.specs.Undivided.{Run, Feed, gives, undivided}
use Rattle.undivided_run.specs.Calls.{Answer, used, over, refused, Fed, allowed, refusal, Machine, fresh, tried, candidates, machine, calls, found}
use Rattle.undivided_run.specs.Step.{start, final, resume, first_read, Lent, search_call, refusal_of}

-- What the machine is fed for a call: the refusal's number where the questions refuse it, else its allowance.
unfoldable pub fed_for : Option ℕ → ℕ → Fed
fed_for None a = allowed a
fed_for (Some k) a = refusal k

-- What the machine is fed for a list of calls, each given the state that the call before it left.
unfoldable pub feeds : {E C : Type 0} → State → List (Lent E C) → List Fed
feeds st [] = []
feeds st (x ∷ xs) = fed_for (refusal_of st x) x.allowance ∷ feeds (search_call st x).1 xs

-- The state st is the one that document 01 gives the machine m: ended with the machine's final status; fresh where the machine has none and took
-- no read; else at the read of the run after the n-th, n being the reads taken.
pub record Leaves (run : Run) (m : Machine) (st : State) : Type 0 where
  -- Where the machine has a final status, the state is ended with it.
  pub ended : (s : Status) → m.final ≡ Some s → st.phase ≡ done s
  -- Where the machine has no final status and took no read, the state is fresh.
  pub unread : m.final ≡ None → m.taken ≡ 0 → st.phase ≡ new
  -- Where the machine has no final status and took a read, the state is at the first of the reads that are left.
  pub onward : m.final ≡ None → 0 < m.taken → (r : Read) × (rs : List Read) × (drop m.taken run.reads ≡ r ∷ rs) × (st.phase ≡ at r)

module _ {E C : Type 0} (F : Feed E C) (cap : Cap) where
  -- A call that is not refused is lent what the run is fed; a refused one may be lent anything.
  abbrev pub FedAlike : State → Lent E C → Type 0
  FedAlike st x = refusal_of st x ≡ None → (x.feed ≡ F) × (x.cap ≡ cap)

  -- Each call of a list, in turn, is lent what the run is fed unless it is refused.
  abbrev pub FedAlikeList : State → List (Lent E C) → Type 0
  FedAlikeList st [] = Unit {0}
  FedAlikeList st (x ∷ xs) = FedAlike st x × FedAlikeList (search_call st x).1 xs

  -- The answers that document 01's calls on its undivided run give to this list of calls, and the machine after the last one.
  abbrev pub on_run : List (Lent E C) → List (Answer C) × Machine
  on_run xs = calls (machine (gives F) (undivided F cap)) fresh (feeds start xs)

  -- "each answer, and after the list the candidates in order, the patterns and table reads counted and any final status, equal those that
  -- document 01's calls on its undivided run give"; `leaves` adds which state the list leaves.
  pub record Demand3 (xs : List (Lent E C)) : Type 0 where
    -- The answers of the calls are those of document 01's calls on the run.
    pub answers : (calls search_call start xs).0 ≡ (on_run xs).0
    -- The candidates among the answers are, in order, those of as many reads of the run as are counted.
    pub found_in_order : found (calls search_call start xs).0 ≡ candidates (gives F) (take (calls search_call start xs).1.reads (undivided F cap).reads)
    -- The table reads counted are the reads that the machine took.
    pub reads : (calls search_call start xs).1.reads ≡ (on_run xs).1.taken
    -- The patterns counted are the combinations tried in those reads.
    pub patterns : (calls search_call start xs).1.patterns ≡ tried (take (calls search_call start xs).1.reads (undivided F cap).reads)
    -- The final status, if there is one, is that of the machine.
    pub status : final (calls search_call start xs).1.phase ≡ (on_run xs).1.final
    -- The state is the one that document 01 gives the machine after the list.
    pub leaves : Leaves (undivided F cap) (on_run xs).1 (calls search_call start xs).1

  -- The call makes a read; or the run has no read after those counted, and the call answers ended with the run's status. Proved as `moves_after`.
  abbrev pub MovesOn : State → Lent E C → Type 0
  MovesOn st x =
      (st.reads < (search_call st x).1.reads)
      ⊎ ((drop st.reads (undivided F cap).reads ≡ []) × ((search_call st x).0 ≡ over (undivided F cap).status))

-- A call not refused and allowed a read reads a slot unless no read is left, and then it answers ended; this holds of any state and anything lent.
-- Proved as `progress_any`.
abbrev pub ProgressAny : {E C : Type 0} → State → Lent E C → Type 0
ProgressAny st x =
    refusal_of st x ≡ None → (0 < x.allowance)
    → (st.reads < (search_call st x).1.reads)
    ⊎ ((s : Status) × (resume (first_read x.feed x.cap) st.phase ≡ ends s) × ((search_call st x).0 ≡ over s))

-- A call that answers "allowance used" made exactly its allowance of reads. Proved as `used_exactly`.
abbrev pub UsedExactly : {E C : Type 0} → State → Lent E C → Type 0
UsedExactly st x = (search_call st x).0 ≡ used → (search_call st x).1.reads ≡ st.reads + x.allowance

-- t is what a call gives that makes no read: where questions 1 to 8 refuse it, their number and the state received; else, where no read is left,
-- ended and the ended state; and where a read is left, "allowance used" and the state received.
abbrev pub NoReadMade : {E C : Type 0} → State → Lent E C → Answer C × State → Type 0
NoReadMade st x t =
    ((k : ℕ) × (x.asked st ≡ Some k) × (t ≡ (refused k, st)))
    ⊎ ((x.asked st ≡ None) × (s : Status) × (resume (first_read x.feed x.cap) st.phase ≡ ends s) × (t ≡ (over s, record { phase = done s; patterns = st.patterns; reads = st.reads })))
    ⊎ ((x.asked st ≡ None) × (r : Read) × (resume (first_read x.feed x.cap) st.phase ≡ goes r) × (t ≡ (used, st)))

-- Every call with allowance 0 gives what `NoReadMade` says, whatever its state and whatever it is lent. Proved as `zero_keeps`.
abbrev pub ZeroKeeps : {E C : Type 0} → State → Lent E C → Type 0
ZeroKeeps st x = x.allowance ≡ 0 → NoReadMade st x (search_call st x)

-- "An ended state ends again alike.": proved as `ends_alike`.
abbrev pub EndsAlike : {E C : Type 0} → State → Lent E C → Type 0
EndsAlike st x = (s : Status) → st.phase ≡ done s → refusal_of st x ≡ None → search_call st x ≡ (over s, st)
