-- The ended state of a record by what its status's number says. Assumes nothing.
use mathlib.Core.Path.{◌≡◌, ap}
use Prim.Native.Nat.{ℕ}
use Rattle.std.specs.Prelude.{Option, Some, None}
use Rattle.undivided_run.specs.declared.state.State.{State}
use Rattle.undivided_run.specs.declared.state.Status.{Status}
use Rattle.undivided_run.specs.declared.state.Phase.TheVariants.{Ended}
use Rattle.undivided_run.specs.Undivided.{cases}
use Rattle.undivided_run.specs.StatusNumber.{status_of}
use Rattle.stream.specs.Words.{Words}
use Rattle.stream.specs.Records.{state_in, ended_of}

-- What an ended state is for a known status, and for a number that no status has.
ended_by : Words → Option Status → Option State
ended_by w o = cases o None λ s. Some (state_in (Ended s) w)

pub ended_known : (n : ℕ) (w : Words) (s : Status) → Some s ≡ status_of n → Some (state_in (Ended s) w) ≡ ended_of n w
unfolding ended_by cases
ended_known n w s e = ap (ended_by w) e

pub ended_unknown : (n : ℕ) (w : Words) → ◌≡◌ {A = Option Status} None (status_of n) → ◌≡◌ {A = Option State} None (ended_of n w)
unfolding ended_by cases
ended_unknown n w e = ap (ended_by w) e
