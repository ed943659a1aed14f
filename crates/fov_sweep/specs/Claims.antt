-- What is proved of the sweep, written as statements. proofs/ has a proof of each one, under the name given after it. Definitions only.
use Rattle.std.specs.Prelude.{◌≡◌, ℕ, ◌≤◌, ◌<◌, List, length, Float}
use Rattle.settings.specs.declared.tolerance.Tolerance.{Tolerance}
use Rattle.fov_sweep.specs.Sweep.{sweep_of, swept_of, later_of}
use Rattle.fov_sweep.specs.Answers.{swept_says, sweeping}

-- The bound on the number of offsets leaves nothing out. A list that fits the room stays the same however many more offsets may be taken,
-- and a list that doesn't fit doesn't fit with more offsets either: `more_offsets`.
abbrev pub MoreOffsets : Type 0
MoreOffsets = (k room : ℕ) (estimate : Float) (error : Tolerance) (step : Float) → room ≤ k
    → (length (sweep_of room estimate error step) ≤ room → sweep_of k estimate error step ≡ sweep_of room estimate error step)
    × (room < length (sweep_of room estimate error step) → room < length (sweep_of k estimate error step))

-- What `build_fov_sweep` returns, together with the slice that it leaves, is document 01's answer: `says_the_answer`.
abbrev pub SaysTheAnswer : Type 0
SaysTheAnswer = (estimate : Float) (error : Tolerance) (step : Float) (before : List Float)
    → swept_says (swept_of estimate error step (length before)) (later_of estimate error step before) ≡ sweeping estimate error step (length before)
