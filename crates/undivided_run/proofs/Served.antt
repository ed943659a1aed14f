-- A successor that enumerates a run's reads: the bounded calls on it answer as the machine on the run does. Assumes nothing.
use mathlib.Core.Path.{◌≡◌, refl, ◌∙◌, ap}
use Prim.Native.Nat.{ℕ, zero, suc, ◌+◌, ◌≤◌}
use native.Mathlib.Omega.{arith}
use mathlib.Core.List.{List, [], ◌∷◌, ◌++◌}
use mathlib.Core.Bool.{Bool, true, false, cond}
use Rattle.std.specs.Prelude.{Option, None, Some}
use lib.ListN.{take, drop, length, length-drop}
use lib.Seq.{drop-drop, take-add}
use Rattle.undivided_run.specs.declared.state.Status.{Status}
use Rattle.undivided_run.specs.declared.state.Position.{Position as Read}
use Rattle.undivided_run.specs.declared.state.Next.{Next}
use Rattle.undivided_run.specs.declared.state.Next.TheVariants.{Goes as goes, Ends as ends}
use Rattle.undivided_run.specs.declared.state.Phase.{Phase as Stage}
use Rattle.undivided_run.specs.declared.state.Phase.TheVariants.{Fresh as new, At as at, Ended as done}
use Rattle.undivided_run.specs.declared.state.State.{State}
use Rattle.undivided_run.specs.Undivided.{Run, starts, cases}
use Rattle.undivided_run.specs.Calls.{Answer, candidate, allowed, Machine, fresh, final_of, tried, serve, machine}
use Rattle.undivided_run.specs.Step.{start, phase_of, final, count_tried, resume, go, zero_call, call}
use Rattle.undivided_run.specs.Step.{Traverses}

count_tried_tried : (r : Read) (rs : List Read) (n : ℕ) → count_tried r n + tried rs ≡ n + tried (r ∷ rs)
unfolding count_tried tried
count_tried_tried r rs n = by (starts r)
  where
    by : (b : Bool) → cond b (suc n) n + tried rs ≡ n + cond b (suc (tried rs)) (tried rs)
    by true = omega arith
    by false = refl

tried_append : (xs ys : List Read) → tried (xs ++ ys) ≡ tried xs + tried ys
unfolding tried
tried_append [] ys = omega arith
tried_append (x ∷ xs) ys = by (starts x) (tried_append xs ys)
  where
    by : (b : Bool) → tried (xs ++ ys) ≡ tried xs + tried ys → cond b (suc (tried (xs ++ ys))) (tried (xs ++ ys)) ≡ cond b (suc (tried xs)) (tried xs) + tried ys
    by true h = omega arith
    by false h = h

tried_add : (n k : ℕ) (rs : List Read) → tried (take n rs) + tried (take k (drop n rs)) ≡ tried (take (n + k) rs)
tried_add n k rs = rw (take-add, tried_append)

final_left : (first : Next) (g : Stage) (r : Read) → resume first g ≡ goes r → final g ≡ None
unfolding resume final
final_left first new r h = refl
final_left first (at p) r h = refl
final_left first (done s) r h = cc

module _ {C : Type 0} (gives : Read → Option C) (valid : Read → Bool) (ok : (r : Read) → valid r ≡ true) (first : Next) (next : Read → ℕ → Next) where
  -- A state after k of the reads rs, with n combinations and m reads counted before them.
  pub record After (s : Status) (rs : List Read) (n m k : ℕ) (st : State) : Type 0 where
    pub short : k ≤ length rs
    pub reads : st.reads ≡ m + k
    pub patterns : st.patterns ≡ n + tried (take k rs)
    pub status : final st.phase ≡ final_of s (drop k rs)
    pub traverses : Traverses next (resume first st.phase) st.patterns (drop k rs) s

  settled : (w : Next) (n m : ℕ) (rs : List Read) (s : Status) → Traverses next w n rs s → After s rs n m 0 (record { phase = phase_of w; patterns = n; reads = m })
  unfolding phase_of resume final final_of tried
  settled w n m [] s h = rw h (record { short = omega arith; reads = omega arith; patterns = omega arith; status = refl; traverses = refl })
  settled w n m (r ∷ rs) s h = rw h.0 (record { short = omega arith; reads = omega arith; patterns = omega arith; status = refl; traverses = (refl, h.1) })

  one_more : (r : Read) (rs : List Read) (s : Status) (n m k : ℕ) (st : State) → After s rs (count_tried r n) (suc m) k st → After s (r ∷ rs) n m (suc k) st
  one_more r rs s n m k st h =
      record {
        short = omega (arith, h.short);
        reads = omega (arith, h.reads);
        patterns = h.patterns ∙ count_tried_tried r (take k rs) n;
        status = h.status;
        traverses = h.traverses;
      }

  -- one read, and what follows it, by whether it gives a candidate
  read_serves : (g : Option C) (r : Read) (rs : List Read) (s : Status) (n m : ℕ) (w : Next) (t : Answer C × State) (u : Answer C × ℕ) → Traverses next w (count_tried r n) rs s → (t.0 ≡ u.0) × After s rs (count_tried r n) (suc m) u.1 t.1 → let k : Answer C × State = cases g t (λ x. (candidate x, record { phase = phase_of w; patterns = count_tried r n; reads = suc m })) in let v : Answer C × ℕ = cases g (u.0, suc u.1) (λ x. (candidate x, 1)) in (k.0 ≡ v.0) × After s (r ∷ rs) n m v.1 k.1
  unfolding cases
  read_serves None r rs s n m w t u h e = (e.0, one_more r rs s n m u.1 t.1 e.1)
  read_serves (Some x) r rs s n m w t u h e = (refl, one_more r rs s n m 0 _ (settled w (count_tried r n) (suc m) rs s h))

  abbrev Serves : (s : Status) (rs : List Read) (a n m : ℕ) (t : Answer C × State) → Type 0
  Serves s rs a n m t = (t.0 ≡ (serve gives s rs a).0) × After s rs n m (serve gives s rs a).1 t.1

  go_serves : (a : ℕ) (st : State) (w : Next) (n m : ℕ) (rs : List Read) (s : Status) → Traverses next w n rs s → Serves s rs a n m (go gives valid next st a w n m)
  unfolding go serve phase_of
  go_serves zero st w n m [] s h = rw h (refl, settled (ends s) n m [] s refl)
  go_serves (suc a) st w n m [] s h = rw h (refl, settled (ends s) n m [] s refl)
  go_serves zero st w n m (r ∷ rs) s h = rw h.0 (refl, settled (goes r) n m (r ∷ rs) s (refl, h.1))
  go_serves (suc a) st w n m (r ∷ rs) s h =
      rw (h.0, ok r) (read_serves (gives r) r rs s n m _ _ (serve gives s rs a) h.1 (go_serves a st _ _ _ rs s h.1))

  zero_serves : (st : State) (w : Next) (rs : List Read) (s : Status) → resume first st.phase ≡ w → Traverses next w st.patterns rs s → Serves s rs 0 st.patterns st.reads (zero_call st w)
  unfolding zero_call serve phase_of final_of tried
  zero_serves st w [] s e h = rw h (refl, settled (ends s) st.patterns st.reads [] s refl)
  zero_serves st w (r ∷ rs) s e h =
      rw h.0 (
        refl,
        record {
          short = omega arith;
          reads = omega arith;
          patterns = omega arith;
          status = final_left first st.phase r (e ∙ h.0);
          traverses = (e ∙ h.0, h.1);
        },
      )

  -- What holds between the search's state and the machine's on a run that the successor enumerates.
  pub record Alike (run : Run) (st : State) (mc : Machine) : Type 0 where
    pub fits : mc.taken ≤ length run.reads
    pub reads : st.reads ≡ mc.taken
    pub patterns : st.patterns ≡ tried (take mc.taken run.reads)
    pub status : final st.phase ≡ mc.final
    pub traverses : Traverses next (resume first st.phase) st.patterns (drop mc.taken run.reads) run.status

  alike_after : (run : Run) (st₀ st : State) (mc : Machine) (k : ℕ) → Alike run st₀ mc → After run.status (drop mc.taken run.reads) st₀.patterns st₀.reads k st → Alike run st (record { taken = mc.taken + k; final = final_of run.status (drop (mc.taken + k) run.reads) })
  alike_after run st₀ st mc k h e =
      record {
        fits = omega (arith, e.short, h.fits, length-drop mc.taken run.reads);
        reads = omega (arith, e.reads, h.reads);
        patterns = e.patterns ∙ ap (◌+ tried (take k (drop mc.taken run.reads))) h.patterns ∙ tried_add mc.taken k run.reads;
        status = e.status ∙ (rw drop-drop);
        traverses = rw (← drop-drop k mc.taken run.reads) e.traverses;
      }

  -- a call on the search's state and on the machine's: one answer, and states alike again
  pub call_alike : (run : Run) (st : State) (mc : Machine) (a : ℕ) → Alike run st mc → let t = call gives valid next first st a in let u = machine gives run mc (allowed a) in (t.0 ≡ u.0) × Alike run t.1 u.1
  unfolding call machine
  call_alike run st mc zero h =
      let e = zero_serves st (resume first st.phase) (drop mc.taken run.reads) run.status refl h.traverses in
      (e.0, alike_after run st _ mc _ h e.1)
  call_alike run st mc (suc a) h =
      let e = go_serves (suc a) st (resume first st.phase) st.patterns st.reads (drop mc.taken run.reads) run.status h.traverses in
      (e.0, alike_after run st _ mc _ h e.1)

  pub start_alike : (run : Run) → Traverses next first 0 run.reads run.status → Alike run start fresh
  unfolding start fresh resume final tried
  start_alike run traverses = record { fits = omega arith; reads = refl; patterns = refl; status = refl; traverses = traverses }
