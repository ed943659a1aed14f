-- What a search gives to a host in C: document 01's answers as numbers. Definitions only.
use Rattle.std.specs.Prelude.{ℕ, Bool, cond, [], ◌∷◌, eqb, get_or, Result, Ok, Err}
use Rattle.undivided_run.specs.declared.state.Position.{Position}
use Rattle.undivided_run.specs.declared.state.State.{State}
use Rattle.undivided_run.specs.declared.state.Phase.{Phase}
use Rattle.undivided_run.specs.declared.state.Phase.TheVariants.{Fresh, At, Ended}
use Rattle.undivided_run.specs.StatusNumber.{status_number}
use Rattle.candidates.specs.declared.entry_tests.Candidate.{Candidate}
use Rattle.candidates.specs.StarVectors.{no_star}
use Rattle.candidates.specs.NoCandidate.{no_candidate}
use Rattle.question.specs.Question.{number_of}
use Rattle.question.specs.declared.Question.{Question}
use Rattle.pattern_search.specs.declared.Searched.{Searched}
use Rattle.pattern_search.specs.declared.Answer.{Answer as Said}
use Rattle.complete.specs.Question14.{place_at}
use Rattle.c_types.specs.declared.structs.StarState.{StarState}
use Rattle.c_types.specs.declared.structs.StarCandidate.{StarCandidate}
use Rattle.c_types.specs.declared.structs.StarAnswer.{StarAnswer}

-- The numbers of a state that names no read. Those of the read are 0.
abbrev pub plain_numbers : ℕ → ℕ → ℕ → ℕ → StarState
plain_numbers phase status patterns reads =
    record {
      phase = phase;
      status = status;
      pass = 0;
      four = 0 ∷ 0 ∷ 0 ∷ 0 ∷ [];
      key = 0;
      probe = 0;
      reserved = 0;
      patterns = patterns;
      reads = reads;
    }

-- The numbers of a state at its next read p.
abbrev pub at_numbers : Position → ℕ → ℕ → StarState
at_numbers p patterns reads =
    record {
      phase = 1;
      status = 0;
      pass = p.pass;
      four = p.four.a ∷ p.four.b ∷ p.four.c ∷ p.four.d ∷ [];
      key = p.key;
      probe = p.probe;
      reserved = 0;
      patterns = patterns;
      reads = reads;
    }

-- The numbers of a state by its phase, which is 0 for fresh, 1 for at its next read and 2 for ended.
abbrev pub phase_numbers : Phase → ℕ → ℕ → StarState
phase_numbers Fresh patterns reads = plain_numbers 0 0 patterns reads
phase_numbers (At p) patterns reads = at_numbers p patterns reads
phase_numbers (Ended s) patterns reads = plain_numbers 2 (status_number s) patterns reads

-- The numbers of a state that a call leaves.
abbrev pub state_numbers : State → StarState
state_numbers s = phase_numbers s.phase s.patterns s.reads

-- The number of the rebuild mark: 1 where it is set, else 0.
abbrev pub flag_number : Bool → ℕ
flag_number b = cond b 1 0

-- The numbers of a candidate.
abbrev pub candidate_numbers : Candidate → StarCandidate
candidate_numbers c =
    record {
      slot = c.slot;
      pass = c.pass;
      place = (place_at c.places 0).0 ∷ (place_at c.places 1).0 ∷ (place_at c.places 2).0 ∷ (place_at c.places 3).0 ∷ [];
      star = (get_or c.stars 0 no_star).0 ∷ (get_or c.stars 1 no_star).0 ∷ (get_or c.stars 2 no_star).0 ∷ (get_or c.stars 3 no_star).0 ∷ [];
      field = c.field;
      rebuild = flag_number c.rebuild;
      reserved = 0;
    }

-- The state given back with "allowance used". Allowance 0 changes nothing, so then the state comes back as received, with its unused numbers;
-- otherwise it is the new state s.
abbrev pub used_state : ℕ → StarState → StarState → StarState
used_state allowance raw s = cond (eqb allowance 0) raw s

-- The numbers of an answer that gives no candidate; the candidate's numbers are all zero.
abbrev pub without_candidate : ℕ → ℕ → StarState → StarAnswer
without_candidate answer number s = record { answer = answer; number = number; candidate = candidate_numbers no_candidate; state = s }

-- The numbers of a call's answer: 0 for a candidate, 1 for allowance used, 2 for ended with the number of its status, 3 for refused with the
-- question's number and the state as received. Here `raw` is that state and s the state that the search leaves.
abbrev pub answer_with : Result Said Question → ℕ → StarState → StarState → StarAnswer
answer_with (Ok (Said.Candidate x)) allowance raw s = record { answer = 0; number = 0; candidate = candidate_numbers x; state = s }
answer_with (Ok Said.AllowanceUsed) allowance raw s = without_candidate 1 0 (used_state allowance raw s)
answer_with (Ok (Said.Ended t)) allowance raw s = without_candidate 2 (status_number t) s
answer_with (Err q) allowance raw s = without_candidate 3 (number_of q) raw

-- The numbers of the answer that a search returned; `raw` is the state as received.
abbrev pub answer_of : StarState → ℕ → Searched → StarAnswer
answer_of raw allowance r = answer_with r.answer allowance raw (state_numbers r.state)
