-- The loop that counts the values: what is counted and what is left of the list. Assumes nothing.
use mathlib.Core.Path.{◌≡◌, sym, ◌∙◌, ap}
use Prim.Native.Nat.{ℕ, zero, suc, ◌+◌, ◌*◌, ◌≤◌}
use native.Mathlib.Omega.{arith}
use mathlib.Core.Bool.{Bool, true, false, cond, ◌&&◌}
use mathlib.Core.List.{List, [], ◌∷◌, ◌++◌}
use lib.ListN.{length, length-append}
use lib.Ieee.{Float, binary32, add, sub, lt, le}
use Rattle.numeric.specs.Value.{zero32, pi32}
use Rattle.std.specs.List.{flat_map}
use Rattle.fov_sweep.specs.Sweep.{pair_at, pairs_from}
use Rattle.fov_sweep.specs.OffsetList.{offsets_from}
use Rattle.fov_sweep.proofs.OffsetList.{pairs_are}
use Rattle.fov_sweep.proofs.Offsets.{pair_few}

-- The values of an offset, which are two or one by the test of estimate − offset.
pub pair_two : (estimate offset : Float) → lt zero32 (sub binary32 estimate offset) ≡ true → pair_at estimate offset ≡ add binary32 estimate offset ∷ sub binary32 estimate offset ∷ []
unfolding pair_at
pair_two estimate offset h = rw h

pub pair_one : (estimate offset : Float) → lt zero32 (sub binary32 estimate offset) ≡ false → pair_at estimate offset ≡ add binary32 estimate offset ∷ []
unfolding pair_at
pair_one estimate offset h = rw h

-- There are at most two values for each offset.
pub pairs_few : (estimate reach step : Float) (k : ℕ) (offset : Float) → length (pairs_from k estimate reach step offset) ≤ 2 * k
unfolding pairs_from
pairs_few estimate reach step zero offset = omega arith
pairs_few estimate reach step (suc k) offset =
    by (le offset reach && lt (add binary32 estimate offset) pi32) (le (add binary32 offset step) offset) (pairs_few estimate reach step k (add binary32 offset step))
  where
    by : (b d : Bool) → length (pairs_from k estimate reach step (add binary32 offset step)) ≤ 2 * k
        → length (cond b (pair_at estimate offset ++ cond d [] (pairs_from k estimate reach step (add binary32 offset step))) []) ≤ 2 * suc k
    by false d ih = omega arith
    by true true ih = simp length-append (omega (arith, pair_few estimate offset))
    by true false ih = simp length-append (omega (arith, pair_few estimate offset))

-- The invariant of the loop: n values are counted, and those of the offsets `todo` are left.
pub record Counted (estimate reach step : Float) (room n : ℕ) (todo : List Float) : Type 0 where
  pub same : n + length (flat_map (pair_at estimate) todo) ≡ length (estimate ∷ pairs_from room estimate reach step step)

module _ (estimate reach step : Float) (room : ℕ) where
  pub counted_start : (todo : List Float) → todo ≡ offsets_from room estimate reach step step → Counted estimate reach step room 1 todo
  counted_start todo e = record { same = omega (arith, ap length (ap (flat_map (pair_at estimate)) e ∙ sym (pairs_are estimate reach step room step))) }

  module _ (n : ℕ) (todo : List Float) (c : Counted estimate reach step room n todo) where
    pub counted_few : n ≤ 2 * room + 1
    counted_few = omega (arith, c.same, pairs_few estimate reach step room step)
