-- The sweep's answers in document 01's words, and which of them each result of `build_fov_sweep` stands for. Definitions only.
use Rattle.std.specs.Prelude.{ℕ, cond, List, length, take, Float, Result, Ok, Err}
use Rattle.settings.specs.declared.tolerance.Tolerance.{Tolerance}
use Rattle.fov_sweep.specs.Sweep.{sweep_of, sweep_fits, list_fits}
use Rattle.question.specs.Question.{number_of}
use Rattle.question.specs.declared.Question.{Question}

-- Document 01's answer: `values` with the count of the values and the values, or `refused` with the number of the question that refuses.
pub data Answer : Type 0 where
  values : ℕ → List Float → Answer
  refused : ℕ → Answer

-- The answer that `build_fov_sweep` gives by its result, together with the lent slice as it is afterwards.
abbrev pub swept_says : Result ℕ Question → List Float → Answer
swept_says (Ok n) later = values n (take n later)
swept_says (Err q) later = refused (number_of q)

-- Document 01's answer for a lent slice of length `room`: question 12 first, then question 13, then the values.
abbrev pub sweeping : Float → Tolerance → Float → ℕ → Answer
sweeping estimate error step room =
    let l = sweep_of room estimate error step in
    cond (sweep_fits estimate error step) (cond (list_fits estimate error step room) (values (length l) l) (refused 13)) (refused 12)
