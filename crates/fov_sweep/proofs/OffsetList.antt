-- The offsets of a sweep: when the list of them ends, what the next is, and that the values of the sweep are those of the offsets. Assumes nothing.
use mathlib.Core.Path.{◌≡◌, refl, ap, ◌∙◌}
use Prim.Native.Nat.{ℕ, zero, suc, ◌-◌, ◌<◌}
use native.Mathlib.Omega.{arith}
use mathlib.Core.Bool.{Bool, true, false, cond, ◌&&◌}
use mathlib.Core.List.{[], ◌∷◌, ◌++◌}
use lib.Ieee.{Float, binary32, add, lt, le}
use Rattle.std.specs.List.{flat_map}
use Rattle.numeric.specs.Value.{pi32}
use Rattle.fov_sweep.specs.Sweep.{pair_at, pairs_from}
use Rattle.fov_sweep.specs.OffsetList.{offsets_from}

module _ (estimate reach step offset : Float) where
  pub none_allowed : offsets_from 0 estimate reach step offset ≡ []
  unfolding offsets_from
  none_allowed = refl

  pub none_reached : (k : ℕ) → le offset reach ≡ false → offsets_from k estimate reach step offset ≡ []
  unfolding offsets_from
  none_reached zero h = refl
  none_reached (suc k) h = rw h

  pub none_below_pi : (k : ℕ) → lt (add binary32 estimate offset) pi32 ≡ false → offsets_from k estimate reach step offset ≡ []
  unfolding offsets_from
  none_below_pi zero h = refl
  none_below_pi (suc k) h = by (le offset reach)
    where
      by : (b : Bool) → cond (b && lt (add binary32 estimate offset) pi32) (offset ∷ cond (le (add binary32 offset step) offset) [] (offsets_from k estimate reach step (add binary32 offset step))) [] ≡ []
      by true = rw h
      by false = refl

  module _ (k : ℕ) (some : 0 < k) (h : le offset reach ≡ true) (u : lt (add binary32 estimate offset) pi32 ≡ true) where
    taken : offsets_from k estimate reach step offset ≡ offset ∷ cond (le (add binary32 offset step) offset) [] (offsets_from (k - 1) estimate reach step (add binary32 offset step))
    unfolding offsets_from
    taken = let e : k ≡ suc (k - 1) = omega arith in ap (λ (j : ℕ). offsets_from j estimate reach step offset) e ∙ (rw (h, u))

    pub last_taken : le (add binary32 offset step) offset ≡ true → offsets_from k estimate reach step offset ≡ offset ∷ offsets_from 0 estimate reach step (add binary32 offset step)
    unfolding offsets_from
    last_taken w = taken ∙ (rw w)

    pub next_taken : le (add binary32 offset step) offset ≡ false → offsets_from k estimate reach step offset ≡ offset ∷ offsets_from (k - 1) estimate reach step (add binary32 offset step)
    next_taken w = taken ∙ (rw w)

-- The values of a sweep are those of its offsets.
pub pairs_are : (estimate reach step : Float) (k : ℕ) (offset : Float) → pairs_from k estimate reach step offset ≡ flat_map (pair_at estimate) (offsets_from k estimate reach step offset)
unfolding pairs_from offsets_from
pairs_are estimate reach step zero offset = refl
pairs_are estimate reach step (suc k) offset =
    by (le offset reach && lt (add binary32 estimate offset) pi32) (le (add binary32 offset step) offset) (pairs_are estimate reach step k (add binary32 offset step))
  where
    by : (b d : Bool) → pairs_from k estimate reach step (add binary32 offset step) ≡ flat_map (pair_at estimate) (offsets_from k estimate reach step (add binary32 offset step))
        → cond b (pair_at estimate offset ++ cond d [] (pairs_from k estimate reach step (add binary32 offset step))) []
        ≡ flat_map (pair_at estimate) (cond b (offset ∷ cond d [] (offsets_from k estimate reach step (add binary32 offset step))) [])
    by false d ih = refl
    by true true ih = refl
    by true false ih = ap (pair_at estimate offset ++◌) ih
