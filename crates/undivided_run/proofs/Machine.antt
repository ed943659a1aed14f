-- What the machine of "Calls on it" does: its candidates are those of the reads taken, and a call allowed a read takes one while one is left. Assumes nothing.
use mathlib.Core.Path.{◌≡◌, refl, ap}
use Prim.Native.Nat.{ℕ, zero, suc, ◌<◌}
use native.Mathlib.Omega.{arith}
use mathlib.Core.List.{List, [], ◌∷◌, ◌++◌, append_assoc, append-nil}
use Rattle.std.specs.Prelude.{Option, None, Some}
use lib.ListN.{take, drop, length, length-drop}
use lib.Seq.{take-add}
use Rattle.undivided_run.specs.declared.state.Status.{Status}
use Rattle.undivided_run.specs.declared.state.Position.{Position as Read}
use Rattle.undivided_run.specs.Undivided.{Run, cases}
use Rattle.undivided_run.specs.Calls.{Answer, candidate, used, over, refused, Fed, allowed, refusal, Machine, fresh, candidates, serve, machine, calls, found}

module _ {C : Type 0} (gives : Read → Option C) where
  pub candidates_append : (xs ys : List Read) → candidates gives (xs ++ ys) ≡ candidates gives xs ++ candidates gives ys
  unfolding candidates cases
  candidates_append [] ys = refl
  candidates_append (x ∷ xs) ys = by (gives x) (candidates_append xs ys)
    where
      by : (g : Option C) → candidates gives (xs ++ ys) ≡ candidates gives xs ++ candidates gives ys → cases g (candidates gives (xs ++ ys)) (λ c. c ∷ candidates gives (xs ++ ys)) ≡ cases g (candidates gives xs) (λ c. c ∷ candidates gives xs) ++ candidates gives ys
      by None h = h
      by (Some c) h = ap (c ∷◌) h

  found_serve : (s : Status) (rs : List Read) (a : ℕ) → candidates gives (take (serve gives s rs a).1 rs) ≡ found ((serve gives s rs a).0 ∷ [])
  unfolding serve candidates found cases
  found_serve s [] a = refl
  found_serve s (r ∷ rs) zero = refl
  found_serve s (r ∷ rs) (suc a) = by (gives r) refl (serve gives s rs a) (found_serve s rs a)
    where
      by : (g : Option C) → gives r ≡ g → (u : Answer C × ℕ) → candidates gives (take u.1 rs) ≡ found (u.0 ∷ []) → let v : Answer C × ℕ = cases g (u.0, suc u.1) (λ x. (candidate x, 1)) in candidates gives (take v.1 (r ∷ rs)) ≡ found (v.0 ∷ [])
      by None e u h = rw e h
      by (Some x) e u h = rw e

  found_cons : (w : Answer C) (ws : List (Answer C)) → found (w ∷ ws) ≡ found (w ∷ []) ++ found ws
  unfolding found
  found_cons (candidate x) ws = refl
  found_cons used ws = refl
  found_cons (over s) ws = refl
  found_cons (refused k) ws = refl

  module _ (run : Run) where
    found_call : (mc : Machine) (f : Fed) → let u = machine gives run mc f in candidates gives (take mc.taken run.reads) ++ found (u.0 ∷ []) ≡ candidates gives (take u.1.taken run.reads)
    unfolding machine found
    found_call mc (refusal k) = append-nil _
    found_call mc (allowed a) = rw (← found_serve run.status (drop mc.taken run.reads) a, ← candidates_append, ← take-add)

    found_from : (mc : Machine) (fs : List Fed) → let u = calls (machine gives run) mc fs in candidates gives (take mc.taken run.reads) ++ found u.0 ≡ candidates gives (take u.1.taken run.reads)
    unfolding calls found
    found_from mc [] = append-nil _
    found_from mc (f ∷ fs) =
        let u = machine gives run mc f in
        let us = calls (machine gives run) u.1 fs in
        rw (found_cons u.0 us.0, ← append_assoc, found_call mc f) (found_from u.1 fs)

    -- After a list of calls the candidates answered are those of the reads taken, in order.
    pub candidates_taken : (fs : List Fed) → let u = calls (machine gives run) fresh fs in found u.0 ≡ candidates gives (take u.1.taken run.reads)
    unfolding fresh candidates
    candidates_taken fs = found_from fresh fs

    serve_takes : (s : Status) (rs : List Read) (a : ℕ) → 0 < length rs → 0 < (serve gives s rs (suc a)).1
    unfolding serve cases
    serve_takes s [] a h = h
    serve_takes s (r ∷ rs) a h = by (gives r) (serve gives s rs a)
      where
        by : (g : Option C) (u : Answer C × ℕ) → let v : Answer C × ℕ = cases g (u.0, suc u.1) (λ x. (candidate x, 1)) in 0 < v.1
        by None u = omega arith
        by (Some x) u = omega arith

    -- A call that is allowed a read takes one, unless none is left.
    pub progress : (mc : Machine) (a : ℕ) → mc.taken < length run.reads → mc.taken < (machine gives run mc (allowed (suc a))).1.taken
    unfolding machine
    progress mc a h = omega (arith, serve_takes run.status (drop mc.taken run.reads) a (simp length-drop (omega arith)))
