-- The loop that writes the values: what is written, what is left of the list, and what stands after it in the slice. Assumes nothing.
use mathlib.Core.Path.{◌≡◌, refl, sym, ◌∙◌, ap}
use Prim.Native.Nat.{ℕ, suc, ◌+◌, ◌≤◌, ◌<◌}
use native.Mathlib.Omega.{arith}
use native.Mathlib.Numerals.{add-one}
use mathlib.Core.Bool.{true, false}
use mathlib.Core.List.{List, [], ◌∷◌, ◌++◌, append_assoc}
use lib.ListN.{length, take, drop, set, length-append, length-drop, length-set}
use lib.Seq.{sets-eq, take_at, drop-append-add, drop-drop}
use lib.Ieee.{Float, binary32, add, sub, lt}
use Rattle.numeric.specs.Value.{zero32}
use Rattle.std.specs.List.{flat_map}
use Rattle.fov_sweep.specs.Sweep.{pair_at, pairs_from}
use Rattle.fov_sweep.specs.OffsetList.{offsets_from}
use Rattle.fov_sweep.proofs.OffsetList.{pairs_are}
use Rattle.fov_sweep.proofs.CountValues.{pair_two, pair_one}

-- What storing the values of one offset leaves.
module _ (estimate offset : Float) (d : List Float) (at : ℕ) (room : at + length (pair_at estimate offset) ≤ length d) where
  pub put_two : lt zero32 (sub binary32 estimate offset) ≡ true
      → set (set d at (add binary32 estimate offset)) (at + 1) (sub binary32 estimate offset) ≡ take at d ++ pair_at estimate offset ++ drop (at + length (pair_at estimate offset)) d
  put_two h =
      let e = pair_two estimate offset h in
      let l : at + 2 ≤ length d = omega (arith, ap length e) in
      rw (e, add-one) (sets-eq (add binary32 estimate offset ∷ sub binary32 estimate offset ∷ []) d at l)

  pub put_one : lt zero32 (sub binary32 estimate offset) ≡ false
      → set d at (add binary32 estimate offset) ≡ take at d ++ pair_at estimate offset ++ drop (at + length (pair_at estimate offset)) d
  put_one h =
      let e = pair_one estimate offset h in
      let l : at + 1 ≤ length d = omega (arith, ap length e) in
      rw e (sets-eq (add binary32 estimate offset ∷ []) d at l)

-- The invariant of the loop: of a slice that began as `start`, the first `at` places hold the front of the list, the values of the offsets
-- `todo` are left to be written, and nothing else has changed.
pub record Written (estimate reach step : Float) (start out : List Float) (at : ℕ) (todo : List Float) : Type 0 where
  pub done : List Float
  pub long : length done ≡ at
  pub some : 0 < at
  pub whole : done ++ flat_map (pair_at estimate) todo ≡ estimate ∷ pairs_from (length start) estimate reach step step
  pub fits : suc (length (pairs_from (length start) estimate reach step step)) ≤ length start
  pub same : out ≡ done ++ drop at start

module _ (estimate reach step : Float) (start out : List Float) (at : ℕ) (todo : List Float) (w : Written estimate reach step start out at todo) where
  listed : at + length (flat_map (pair_at estimate) todo) ≤ length start
  listed = omega (arith, sym (length-append w.done (flat_map (pair_at estimate) todo)) ∙ ap length w.whole, w.long, w.fits)

  length_kept : length out ≡ length start
  length_kept = ap length w.same ∙ length-append w.done (drop at start) ∙ (simp (w.long, length-drop) (omega (arith, listed)))

  module _ (offset : Float) (rest : List Float) (e : todo ≡ offset ∷ rest) where
    next_is : flat_map (pair_at estimate) todo ≡ pair_at estimate offset ++ flat_map (pair_at estimate) rest
    next_is = ap (flat_map (pair_at estimate)) e

    -- The slice has room for the values of the next offset.
    pub pair_room : at + length (pair_at estimate offset) ≤ length out
    pair_room = omega (arith, listed, ap length next_is ∙ length-append (pair_at estimate offset) (flat_map (pair_at estimate) rest), length_kept)

    -- The values of the next offset are written, and the list goes on.
    pub written_on : (later : List Float) → later ≡ take at out ++ pair_at estimate offset ++ drop (at + length (pair_at estimate offset)) out
        → Written estimate reach step start later (at + length (pair_at estimate offset)) rest
    written_on later h =
        let p = pair_at estimate offset in
        let front : take at out ≡ w.done = ap (take at) w.same ∙ take_at w.done (drop at start) at w.long in
        let back : drop (at + length p) out ≡ drop (at + length p) start =
        ap (drop (at + length p)) w.same
        ∙ ap (λ (n : ℕ). drop (n + length p) (w.done ++ drop at start)) (sym w.long)
        ∙ drop-append-add w.done (drop at start) (length p)
        ∙ drop-drop (length p) at start in
        record {
          done = w.done ++ p;
          long = length-append w.done p ∙ ap (◌+ length p) w.long;
          some = omega (arith, w.some);
          whole = append_assoc w.done p (flat_map (pair_at estimate) rest) ∙ ap (w.done ++◌) (sym next_is) ∙ w.whole;
          fits = w.fits;
          same = h ∙ (rw (front, back));
        }

first_place : (d : List Float) (x : Float) → 0 < length d → set d 0 x ≡ (x ∷ []) ++ drop 1 (set d 0 x)
first_place [] x h = absurd (omega arith)
first_place (y ∷ d) x h = refl

module _ (estimate reach step : Float) (d : List Float) (fits : length (estimate ∷ pairs_from (length d) estimate reach step step) ≤ length d) where
  start_fits : suc (length (pairs_from (length (set d 0 estimate)) estimate reach step step)) ≤ length (set d 0 estimate)
  start_fits = rw (length-set d 0 estimate) fits

  pub written_start : (todo : List Float) → todo ≡ offsets_from (length (set d 0 estimate)) estimate reach step step → Written estimate reach step (set d 0 estimate) (set d 0 estimate) 1 todo
  written_start todo e =
      record {
        done = estimate ∷ [];
        long = refl;
        some = omega arith;
        whole = ap (estimate ∷◌) (ap (flat_map (pair_at estimate)) e ∙ sym (pairs_are estimate reach step (length (set d 0 estimate)) step));
        fits = start_fits;
        same = first_place d estimate (omega arith);
      }
