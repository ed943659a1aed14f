-- The numbers of the statuses, the same for hosts in C and in the recorded lists. Definitions only.
use Rattle.std.specs.Prelude.{ℕ, cond, eqb, Option, Some, None}
use Rattle.undivided_run.specs.declared.state.Status.{Status}
use Rattle.undivided_run.specs.declared.state.Status.TheVariants.{TooFew, NoMatch, Timeout}

-- The number of a status: 0 for TooFew, 1 for NoMatch, 2 for Timeout.
abbrev pub status_number : Status → ℕ
status_number TooFew = 0
status_number NoMatch = 1
status_number Timeout = 2

-- The status with this number; none where no status has it.
unfoldable pub status_of : ℕ → Option Status
status_of n = cond (eqb n 0) (Some TooFew) (cond (eqb n 1) (Some NoMatch) (cond (eqb n 2) (Some Timeout) None))
