-- The sweep: the fields of view to try around an estimate, with questions 12 and 13. Definitions only.
use Rattle.std.specs.Prelude.{ℕ, zero, suc, Bool, cond, ◌&&◌, List, [], ◌∷◌, ◌++◌, leb, length, drop, Float, Result, Ok, Err}
use Rattle.std.specs.Float.{binary32}
use Rattle.std.specs.Float.Ieee.{add, sub, lt, le}
use Rattle.std.specs.Float.Ieee.Scale.{finite}
use Rattle.numeric.specs.Value.{zero32, pi32}
use Rattle.numeric.specs.MinMax.{smaller}
use Rattle.settings.specs.Tolerance.{option_fits}
use Rattle.settings.specs.declared.tolerance.Tolerance.{Tolerance}
use Rattle.settings.specs.declared.tolerance.Tolerance.TheVariants.{Given, Absent}
use Rattle.question.specs.declared.Question.{Question}
use Rattle.question.specs.declared.Question.TheVariants.{SweepNumbers, SweepRoom}

-- Question 12: "estimate above 0 and below f32 pi, step finite and above 0, error finite or absent?"
unfoldable pub sweep_fits : Float → Tolerance → Float → Bool
sweep_fits estimate error step = (lt zero32 estimate && lt estimate pi32) && (finite step && lt zero32 step) && option_fits error

-- The values at an offset: "estimate + offset and, if above 0, estimate − offset".
unfoldable pub pair_at : Float → Float → List Float
pair_at estimate offset =
    add binary32 estimate offset
    ∷ cond (lt zero32 (sub binary32 estimate offset)) (sub binary32 estimate offset ∷ []) []

-- The values from an offset on, as build_fov_sweep has it. The list goes on while the offset is within reach and estimate + offset is below pi.
-- The next offset is a step more; where rounding makes it no larger, the list ends.
-- At most k offsets are taken; `MoreOffsets` of Claims.antt says that this bound leaves nothing out.
unfoldable pub pairs_from : ℕ → Float → Float → Float → Float → List Float
unfolding pair_at
pairs_from zero estimate reach step offset = []
pairs_from (suc k) estimate reach step offset =
    cond (le offset reach && lt (add binary32 estimate offset) pi32)
    (pair_at estimate offset
    ++ cond (le (add binary32 offset step) offset) [] (pairs_from k estimate reach step (add binary32 offset step)))
    []

-- The values that follow the estimate; there are none where the error is absent or not above 0. The first offset is the step.
abbrev pub beside_of : ℕ → Float → Tolerance → Float → List Float
beside_of k estimate (Given x) step = cond (lt zero32 x) (pairs_from k estimate (smaller x pi32) step step) []
beside_of k estimate Absent step = []

-- The whole list: "Given a step: the estimate, then estimate + offset and, if above 0, estimate − offset", with at most k offsets.
unfoldable pub sweep_of : ℕ → Float → Tolerance → Float → List Float
unfolding pairs_from
sweep_of k estimate error step = estimate ∷ beside_of k estimate error step

-- Question 13: "does the list fit the lent slice?" `room` offsets are enough to tell, since each gives at least one value beside the estimate.
unfoldable pub list_fits : Float → Tolerance → Float → ℕ → Bool
unfolding sweep_of
list_fits estimate error step room = leb (length (sweep_of room estimate error step)) room

-- What `build_fov_sweep` returns for a lent slice of length `room`: question 12 first, then question 13, then the count of values.
unfoldable pub swept_of : Float → Tolerance → Float → ℕ → Result ℕ Question
unfolding sweep_fits list_fits
swept_of estimate error step room =
    cond (sweep_fits estimate error step)
    (cond (list_fits estimate error step room) (Ok (length (sweep_of room estimate error step))) (Err SweepRoom))
    (Err SweepNumbers)

-- The lent slice afterwards: the values are written and nothing after them; a refused sweep leaves the slice as it was.
unfoldable pub later_of : Float → Tolerance → Float → List Float → List Float
unfolding sweep_fits list_fits
later_of estimate error step before =
    cond (sweep_fits estimate error step && list_fits estimate error step (length before))
    (sweep_of (length before) estimate error step ++ drop (length (sweep_of (length before) estimate error step)) before)
    before
