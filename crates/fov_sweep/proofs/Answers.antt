-- What `build_fov_sweep` returns, together with the slice that it leaves, is document 01's answer. Assumes nothing.
use mathlib.Core.Path.{◌≡◌, refl, ◌∙◌, ap, ap₂}
use Prim.Native.Nat.{ℕ}
use mathlib.Core.Bool.{Bool, true, false, cond, ◌&&◌}
use mathlib.Core.List.{List, ◌++◌}
use lib.ListN.{length, drop}
use lib.Seq.{take-append_seam}
use lib.Ieee.{Float}
use Rattle.fov_sweep.specs.Sweep.{sweep_of, sweep_fits, list_fits, swept_of, later_of}
use Rattle.fov_sweep.specs.Answers.{refused, values, swept_says, sweeping}
use Rattle.fov_sweep.specs.Claims.{SaysTheAnswer}
use Rattle.settings.specs.declared.tolerance.Tolerance.{Tolerance}
use Rattle.std.specs.Prelude.{Result, Ok, Err}
use Rattle.question.specs.declared.Question.{Question}
use Rattle.question.specs.declared.Question.TheVariants.{SweepNumbers, SweepRoom}

pub says_the_answer : SaysTheAnswer
unfolding swept_of later_of
says_the_answer estimate error step before = by (sweep_fits estimate error step) (list_fits estimate error step (length before)) (sweep_of (length before) estimate error step)
  where
    by : (a b : Bool) (l : List Float)
        → swept_says (cond a (cond b (Ok (length l)) (Err SweepRoom)) (Err SweepNumbers)) (cond (a && b) (l ++ drop (length l) before) before)
        ≡ cond a (cond b (values (length l) l) (refused 13)) (refused 12)
    by true true l = ap (values (length l)) (take-append_seam l (drop (length l) before))
    by true false l = refl
    by false b l = refl

-- The first promise of `build_fov_sweep` implies its second.
pub says_by : (estimate : Float) (error : Tolerance) (step : Float) (before : List Float) (r : Result ℕ Question) (later : List Float) → (r ≡ swept_of estimate error step (length before)) × (later ≡ later_of estimate error step before) → swept_says r later ≡ sweeping estimate error step (length before)
says_by estimate error step before r later h = ap₂ swept_says h.0 h.1 ∙ says_the_answer estimate error step before
