-- Demand 3 for a host in C: a list of calls of `star_search`, each given the state that the one before gave back, compared with document 01's
-- calls on the undivided run. Definitions only.
use Rattle.std.specs.Prelude.{◌≡◌, ℕ, zero, suc, cond, List, [], ◌∷◌, map, eqb, take, drop}
use Rattle.std.specs.Prelude.{Option, None, Some}
use Rattle.candidates.specs.NoCandidate.{no_candidate}
use Rattle.candidates.specs.declared.entry_tests.Candidate.{Candidate}
use Rattle.undivided_run.specs.declared.state.Position.{Position}
use Rattle.undivided_run.specs.declared.state.Status.{Status}
use Rattle.undivided_run.specs.Undivided.{gives}
use Rattle.undivided_run.specs.Calls.{Answer, candidate, used, over, refused, tried, candidates}
use Rattle.undivided_run.specs.Step.{start}
use Rattle.search_feed.specs.Data.{Data}
use Rattle.search_feed.specs.Feed.{feed}
use Rattle.pattern_search.specs.Demand3.{answers_of, replies, last_state, run, AllSame, Opens, on_run}
use Rattle.c_types.specs.State.{position_of, state_of}
use Rattle.undivided_run.specs.StatusNumber.{status_number}
use Rattle.c_types.specs.Answer.{plain_numbers, candidate_numbers}
use Rattle.c_types.specs.declared.structs.StarState.{StarState}
use Rattle.c_types.specs.declared.structs.StarCandidate.{StarCandidate}
use Rattle.c_types.specs.declared.structs.StarAnswer.{StarAnswer}
use Rattle.star_search.specs.Call.{Call, given_by, answered}

-- What the calls of a list return, beginning with the state `raw`.
unfoldable pub answers : StarState → List Call → List StarAnswer
answers raw [] = []
answers raw (g ∷ gs) = answered raw g ∷ answers (answered raw g).state gs

-- The state that the last call of a list gives back, beginning with the state `raw`.
unfoldable pub last_raw : StarState → List Call → StarState
last_raw raw [] = raw
last_raw raw (g ∷ gs) = last_raw (answered raw g).state gs

-- The numbers of an answer without its state.
pub record Numbers : Type 0 where
  pub answer : ℕ
  pub number : ℕ
  pub candidate : StarCandidate

-- The numbers of what `star_search` returned, without the state.
abbrev pub said_by : StarAnswer → Numbers
said_by a = record { answer = a.answer; number = a.number; candidate = a.candidate }

-- Document 01's answers as these numbers.
abbrev pub numbers_of : Answer Candidate → Numbers
numbers_of (candidate x) = record { answer = 0; number = 0; candidate = candidate_numbers x }
numbers_of used = record { answer = 1; number = 0; candidate = candidate_numbers no_candidate }
numbers_of (over s) = record { answer = 2; number = status_number s; candidate = candidate_numbers no_candidate }
numbers_of (refused n) = record { answer = 3; number = n; candidate = candidate_numbers no_candidate }

-- Through C the answers are those of the search itself, and the state after the list is the search's state: `same_calls`.
abbrev pub SameCalls : Type 0
SameCalls = (raw : StarState) (gs : List Call)
    → (map said_by (answers raw gs) ≡ map numbers_of (answers_of (replies (state_of raw) (map given_by gs))))
    × (state_of (last_raw raw gs) ≡ last_state (state_of raw) (map given_by gs))

-- The candidates among the answers, in order.
unfoldable pub found_in : List Numbers → List StarCandidate
found_in [] = []
found_in (a ∷ rest) = cond (eqb a.answer 0) (a.candidate ∷ found_in rest) (found_in rest)

-- The phase of document 01's machine that has this final status, if any, and took n reads: 0 for fresh, 1 for at its next read, 2 for ended.
abbrev pub phase_on : Option Status → ℕ → ℕ
phase_on (Some s) n = 2
phase_on None zero = 0
phase_on None (suc n) = 1

-- What a host sees is what document 01's calls on its undivided run give: each answer, after the list the candidates in order, and in the
-- state given back the reads, the patterns, the phase, the status of an ended run and the numbers of a next read.
pub record SeenFromC (D : Data) (raw : StarState) (gs : List Call) : Type 0 where
  -- The answers are those of document 01's calls on the undivided run.
  pub answers_are : map said_by (answers raw gs) ≡ map numbers_of (on_run D (map given_by gs)).0
  -- The candidates are those that the run's reads give, in order, up to the number of reads that the state counts.
  pub found_in_order : found_in (map said_by (answers raw gs)) ≡ map candidate_numbers (candidates (gives (feed D)) (take (last_raw raw gs).reads (run D).reads))
  -- The state counts the reads that document 01's machine took.
  pub reads : (last_raw raw gs).reads ≡ (on_run D (map given_by gs)).1.taken
  -- The state counts the combinations tried in these reads.
  pub patterns : (last_raw raw gs).patterns ≡ tried (take (last_raw raw gs).reads (run D).reads)
  -- The phase is that of the machine.
  pub phase : (last_raw raw gs).phase ≡ phase_on (on_run D (map given_by gs)).1.final (on_run D (map given_by gs)).1.taken
  -- Where the machine has ended with a status, the state has the number of that status.
  pub status : (s : Status) → (on_run D (map given_by gs)).1.final ≡ Some s → (last_raw raw gs).status ≡ status_number s
  -- Where the state is at its next read, its numbers name the read of the run that comes next.
  pub next_position : (last_raw raw gs).phase ≡ 1 → (r : Position) × (rs : List Position) × (drop (last_raw raw gs).reads (run D).reads ≡ r ∷ rs) × (position_of (last_raw raw gs) ≡ r)
  -- The state means the one that the same list of calls of the search itself leaves.
  pub state : state_of (last_raw raw gs) ≡ last_state start (map given_by gs)

-- Demand 3 through C, from any state in C that means fresh: `listed_through_c`.
abbrev pub ListedThroughC : Type 0
ListedThroughC = (D : Data) → Opens D → (raw : StarState) → state_of raw ≡ start → (gs : List Call) → AllSame D start (map given_by gs) → SeenFromC D raw gs

-- Demand 3 through C, from the state whose numbers are all zero: `listed_from_zero`.
abbrev pub ListedFromZero : Type 0
ListedFromZero = (D : Data) → Opens D → (gs : List Call) → AllSame D start (map given_by gs) → SeenFromC D (plain_numbers 0 0 0 0) gs
