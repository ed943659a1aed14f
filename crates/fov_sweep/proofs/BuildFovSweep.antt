-- The whole sweep, put together from its parts: question 12, the count of the values, and the list written. Assumes nothing.
use mathlib.Core.Path.{◌≡◌, ◌∙◌, ap}
use Prim.Native.Nat.{ℕ, ◌+◌, ◌≤◌, ◌<◌, min}
use native.Mathlib.Omega.{arith}
use mathlib.Core.Bool.{true, false, ◌&&◌}
use mathlib.Core.List.{List, ◌∷◌, ◌++◌}
use borrow.Author.Tests.{le-leb, lt-leb}
use lib.ListN.{length, drop}
use lib.Ieee.{Float, lt}
use lib.Ieee.Scale.{finite}
use Rattle.numeric.specs.Value.{zero32, pi32}
use Rattle.numeric.proofs.Tests.{both_l, both_r}
use Rattle.settings.specs.Tolerance.{option_fits}
use Rattle.settings.specs.declared.tolerance.Tolerance.{Tolerance}
use Rattle.fov_sweep.specs.Sweep.{pairs_from, sweep_of, sweep_fits, list_fits, swept_of, later_of}
use Rattle.fov_sweep.specs.Reach.{reach_of}
use Rattle.fov_sweep.proofs.Offsets.{beside_reach}
use Rattle.std.specs.Prelude.{Result, Ok, Err}
use Rattle.question.specs.declared.Question.{Question}
use Rattle.question.specs.declared.Question.TheVariants.{SweepNumbers, SweepRoom}

module _ (estimate : Float) (error : Tolerance) (step : Float) (d : List Float) where
  pub refused_12 : sweep_fits estimate error step ≡ false → (◌≡◌ {A = Result ℕ Question} (Err SweepNumbers) (swept_of estimate error step (length d))) × (d ≡ later_of estimate error step d)
  unfolding swept_of later_of
  refused_12 h = (rw h, rw h)

  module _ (fits : sweep_fits estimate error step ≡ true) (reach : Float) (is : reach ≡ reach_of error) where
    step_above : lt zero32 step ≡ true
    unfolding sweep_fits
    step_above =
        let a = lt zero32 estimate && lt estimate pi32 in
        let b = finite step && lt zero32 step in
        both_r (finite step) (lt zero32 step) (both_r a b (both_l (a && b) (option_fits error) fits))

    -- The list that the code goes through is the sweep.
    list_is : (k : ℕ) → estimate ∷ pairs_from k estimate reach step step ≡ sweep_of k estimate error step
    unfolding sweep_of
    list_is k = ap (estimate ∷◌) (ap (λ (r : Float). pairs_from k estimate r step step) is ∙ beside_reach k estimate error step step_above)

    module _ (n : ℕ) (count : min n (length d + 1) ≡ min (length (estimate ∷ pairs_from (length d) estimate reach step step)) (length d + 1)) where
      long : min n (length d + 1) ≡ min (length (sweep_of (length d) estimate error step)) (length d + 1)
      long = count ∙ ap (λ (l : List Float). min (length l) (length d + 1)) (list_is (length d))

      pub refused_13 : length d < n → (◌≡◌ {A = Result ℕ Question} (Err SweepRoom) (swept_of estimate error step (length d))) × (d ≡ later_of estimate error step d)
      unfolding swept_of later_of list_fits
      refused_13 h =
          let past : length d < length (sweep_of (length d) estimate error step) = omega (arith, long) in
          (rw (fits, lt-leb _ _ past), rw (fits, lt-leb _ _ past))

      pub swept : n ≤ length d → (later : List Float)
          → later ≡ (estimate ∷ pairs_from (length d) estimate reach step step) ++ drop (length (estimate ∷ pairs_from (length d) estimate reach step step)) d
          → (◌≡◌ {A = Result ℕ Question} (Ok n) (swept_of estimate error step (length d))) × (later ≡ later_of estimate error step d)
      unfolding swept_of later_of list_fits
      swept h later e =
          let room : length (sweep_of (length d) estimate error step) ≤ length d = omega (arith, long) in
          let same : n ≡ length (sweep_of (length d) estimate error step) = omega (arith, long) in
          (rw (fits, le-leb _ _ room) (ap Ok same), rw (fits, le-leb _ _ room) (e ∙ ap (λ (l : List Float). l ++ drop (length l) d) (list_is (length d))))
