-- The bound on the number of offsets leaves nothing out, and a reach of 0 gives no offset. Assumes nothing.
use mathlib.Core.Path.{◌≡◌, refl, ap}
use Prim.Native.Nat.{ℕ, zero, suc, ◌≤◌, ◌<◌}
use native.Mathlib.Omega.{arith}
use mathlib.Core.Bool.{Bool, true, false, cond, ◌&&◌}
use mathlib.Core.List.{[], ◌∷◌, ◌++◌}
use lib.ListN.{length, length-append}
use lib.Ieee.{Float, binary32, add, sub, lt, le}
use Rattle.numeric.specs.Value.{zero32, pi32}
use Rattle.numeric.specs.MinMax.{smaller}
use Rattle.numeric.proofs.Order.{holds, lt_not_le}
use Rattle.settings.specs.declared.tolerance.Tolerance.{Tolerance}
use Rattle.settings.specs.declared.tolerance.Tolerance.TheVariants.{Given, Absent}
use Rattle.fov_sweep.specs.Sweep.{pair_at, pairs_from, beside_of, sweep_of}
use Rattle.fov_sweep.specs.Reach.{reach_of}
use Rattle.fov_sweep.specs.Claims.{MoreOffsets}

-- An offset gives 1 or 2 values.
pub pair_some : (estimate offset : Float) → 0 < length (pair_at estimate offset)
unfolding pair_at
pair_some estimate offset = omega arith

pub pair_few : (estimate offset : Float) → length (pair_at estimate offset) ≤ 2
unfolding pair_at
pair_few estimate offset = by (lt zero32 (sub binary32 estimate offset))
  where
    by : (b : Bool) → length (add binary32 estimate offset ∷ cond b (sub binary32 estimate offset ∷ []) []) ≤ 2
    by true = omega arith
    by false = omega arith

module _ (estimate reach step : Float) where
  -- With more offsets there are at least as many values.
  longer : (j k : ℕ) (offset : Float) → j ≤ k → length (pairs_from j estimate reach step offset) ≤ length (pairs_from k estimate reach step offset)
  unfolding pairs_from
  longer zero k offset h = omega arith
  longer (suc j) zero offset h = absurd (omega arith)
  longer (suc j) (suc k) offset h =
      by (le offset reach && lt (add binary32 estimate offset) pi32) (le (add binary32 offset step) offset) (longer j k (add binary32 offset step) (omega arith))
    where
      by : (b d : Bool) → length (pairs_from j estimate reach step (add binary32 offset step)) ≤ length (pairs_from k estimate reach step (add binary32 offset step))
          → length (cond b (pair_at estimate offset ++ cond d [] (pairs_from j estimate reach step (add binary32 offset step))) [])
          ≤ length (cond b (pair_at estimate offset ++ cond d [] (pairs_from k estimate reach step (add binary32 offset step))) [])
      by false d ih = omega arith
      by true true ih = omega arith
      by true false ih = simp length-append (omega arith)

  -- Where there are fewer values than offsets allowed the list ended by itself, and more offsets don't change it.
  same : (j k : ℕ) (offset : Float) → j ≤ k → length (pairs_from j estimate reach step offset) < j → pairs_from k estimate reach step offset ≡ pairs_from j estimate reach step offset
  unfolding pairs_from
  same zero k offset h s = absurd (omega arith)
  same (suc j) zero offset h s = absurd (omega arith)
  same (suc j) (suc k) offset h s =
      by (le offset reach && lt (add binary32 estimate offset) pi32) (le (add binary32 offset step) offset) s (same j k (add binary32 offset step) (omega arith))
    where
      by : (b d : Bool)
          → length (cond b (pair_at estimate offset ++ cond d [] (pairs_from j estimate reach step (add binary32 offset step))) []) < suc j
          → (length (pairs_from j estimate reach step (add binary32 offset step)) < j → pairs_from k estimate reach step (add binary32 offset step) ≡ pairs_from j estimate reach step (add binary32 offset step))
          → cond b (pair_at estimate offset ++ cond d [] (pairs_from k estimate reach step (add binary32 offset step))) []
          ≡ cond b (pair_at estimate offset ++ cond d [] (pairs_from j estimate reach step (add binary32 offset step))) []
      by false d s ih = refl
      by true true s ih = refl
      by true false s ih = ap (pair_at estimate offset ++◌) (ih (omega (arith, simp length-append at s, pair_some estimate offset)))

-- The bound leaves nothing out of the list that begins with the estimate.
pub more_offsets : MoreOffsets
unfolding sweep_of
more_offsets k room estimate (Given x) step h = by (lt zero32 x)
  where
    by : (b : Bool)
        → (suc (length (cond b (pairs_from room estimate (smaller x pi32) step step) [])) ≤ room → estimate ∷ cond b (pairs_from k estimate (smaller x pi32) step step) [] ≡ estimate ∷ cond b (pairs_from room estimate (smaller x pi32) step step) [])
        × (room < suc (length (cond b (pairs_from room estimate (smaller x pi32) step step) [])) → room < suc (length (cond b (pairs_from k estimate (smaller x pi32) step step) [])))
    by true = (
      (λ s. ap (estimate ∷◌) (same estimate (smaller x pi32) step room k step h s)),
      (λ s. omega (arith, longer estimate (smaller x pi32) step room k step h)),
    )
    by false = ((λ s. refl), (λ s. s))
more_offsets k room estimate Absent step h = ((λ s. refl), (λ s. s))

-- ---- A reach of 0 gives no offset, since the first offset is above 0.
none_reached : (k : ℕ) (estimate step : Float) → lt zero32 step ≡ true → pairs_from k estimate zero32 step step ≡ []
unfolding pairs_from
none_reached zero estimate step h = refl
none_reached (suc k) estimate step h = by (le step zero32) refl
  where
    by : (b : Bool) → le step zero32 ≡ b → cond (b && lt (add binary32 estimate step) pi32) (pair_at estimate step ++ cond (le (add binary32 step step) step) [] (pairs_from k estimate zero32 step (add binary32 step step))) [] ≡ []
    by true e = absurd (lt_not_le zero32 step (holds (lt zero32 step) h) (holds (le step zero32) e))
    by false e = refl

pub beside_reach : (k : ℕ) (estimate : Float) (error : Tolerance) (step : Float) → lt zero32 step ≡ true → pairs_from k estimate (reach_of error) step step ≡ beside_of k estimate error step
beside_reach k estimate (Given x) step h = by (lt zero32 x)
  where
    by : (b : Bool) → pairs_from k estimate (cond b (smaller x pi32) zero32) step step ≡ cond b (pairs_from k estimate (smaller x pi32) step step) []
    by true = refl
    by false = none_reached k estimate step h
beside_reach k estimate Absent step h = none_reached k estimate step h
