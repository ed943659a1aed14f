-- The state from a host in C, as the library's own type. Definitions only.
-- Every bit pattern has a meaning: an unknown tag becomes a value that its question refuses (star_search/specs/Claims.antt), so that the
-- questions keep their order and the first no wins.
use Rattle.std.specs.Prelude.{ℕ, cond, eqb, get_or}
use Rattle.undivided_run.specs.declared.state.Position.{Position}
use Rattle.undivided_run.specs.declared.state.State.{State}
use Rattle.undivided_run.specs.declared.state.Phase.TheVariants.{Fresh, At, Ended}
use Rattle.undivided_run.specs.declared.state.Status.TheVariants.{TooFew, NoMatch, Timeout}
use Rattle.c_types.specs.declared.structs.StarState.{StarState}

-- The read that a state is at.
unfoldable pub position_of : StarState → Position
position_of s =
    record {
      pass = s.pass;
      four = record { a = get_or s.four 0 0; b = get_or s.four 1 0; c = get_or s.four 2 0; d = get_or s.four 3 0 };
      key = s.key;
      probe = s.probe;
    }

-- What a state with an unknown tag becomes: a fresh state that counts a combination, which question 8 refuses.
unfoldable pub unknown : State
unknown = record { phase = Fresh; patterns = 1; reads = 0 }

-- An ended state by the number of its status: 0 for TooFew, 1 for NoMatch, 2 for Timeout.
unfoldable pub ended_of : ℕ → ℕ → ℕ → State
ended_of status patterns reads =
    cond (eqb status 0) (record { phase = Ended TooFew; patterns = patterns; reads = reads })
    (cond (eqb status 1) (record { phase = Ended NoMatch; patterns = patterns; reads = reads })
    (cond (eqb status 2) (record { phase = Ended Timeout; patterns = patterns; reads = reads })
    unknown))

-- A state by the number of its phase: 0 for fresh, 1 for at its next read, 2 for ended.
unfoldable pub state_of : StarState → State
state_of s =
    cond (eqb s.phase 0) (record { phase = Fresh; patterns = s.patterns; reads = s.reads })
    (cond (eqb s.phase 1) (record { phase = At (position_of s); patterns = s.patterns; reads = s.reads })
    (cond (eqb s.phase 2) (ended_of s.status s.patterns s.reads)
    unknown))
