-- The reads that `fast_path` skips, which give no candidate: the cursor after them, and the rest of the call from there. Assumes nothing.
use mathlib.Core.Path.{◌≡◌, refl, sym, ◌∙◌, ap, subst}
use Prim.Native.Nat.{ℕ, ◌+◌, ◌-◌, ◌≤◌, ◌<◌}
use native.Mathlib.Omega.{arith}
use native.Mathlib.Nat.{eq-or-lt_of_le}
use mathlib.Core.Logic.{⊎_elim}
use borrow.Author.Tests.{eq-eqb, ne_eqb}
use Rattle.undivided_run.specs.declared.state.Position.{Position}
use Rattle.undivided_run.specs.declared.state.State.{State}
use Rattle.undivided_run.specs.declared.state.Cursor.{Cursor}
use Rattle.undivided_run.specs.declared.state.Next.TheVariants.{Goes as goes}
use Rattle.undivided_run.specs.Step.{count_tried}
use Rattle.undivided_run.specs.PositionExists.{Keyed}
use Rattle.undivided_run.specs.CallInvariant.{CallInvariant, continuing}
use Rattle.search_feed.specs.Data.{Data}
use Rattle.search_feed.specs.Feed.{feed}
use Rattle.search_cache.specs.Cache.{LoadedPass, LoadedCombination, LoadedFor}
use Rattle.search_cache.specs.declared.pass.Cache.{Cache}
use Rattle.search_cache.specs.declared.read.Loaded.{Loaded}
use Rattle.search_feed.proofs.WithinLimits.{every_combination_keyed}
use Rattle.fast_path.specs.SkipReads.{skipped_reads}
use Rattle.undivided_run.specs.Moves.{at_key}
use Rattle.fast_path.specs.Skippable.{Leads}
use Rattle.fast_path.specs.declared.skip_reads.SkipResult.{SkipResult}
use Rattle.fast_path.proofs.Skippable.{skippable_rest}
use Rattle.fast_path.proofs.SkippedReads.{skipped_reads_leads}
use Rattle.pattern_search.specs.Answers.{searched}
use Rattle.pattern_search.specs.declared.Searched.{Searched}
use Rattle.pattern_search.specs.Iteration.{cursor_after_skip, Ready, Iterated}
use Rattle.std.specs.declared.ops.ControlFlow.{ControlFlow}
use Rattle.std.specs.declared.ops.ControlFlow.TheVariants.{Continue, Break}
use Rattle.search_cache.proofs.Loaded.{loaded_pass, loaded_four}
use Rattle.pattern_search.proofs.Iterating.{here_of}

module _ (w : Cursor) (p : Position) (s : SkipResult) (a : ℕ) where
  pub after_skip_none : s.left ≡ a → w ≡ cursor_after_skip w p s a
  after_skip_none e = sym (rw (eq-eqb s.left a e))

  pub after_skip_some : (s.left ≡ a → ⊥) → (q : Position) → q ≡ at_key p s.key s.probe → (n : ℕ) → n ≡ count_tried p w.patterns → record { next = goes q; patterns = n; reads = w.reads + (a - s.left) } ≡ cursor_after_skip w p s a
  after_skip_some o q qe n ne = sym (rw (ne_eqb s.left a o, ← qe, ← ne))

  -- The cursor after the skipped reads is at the read that they lead to, and the rest of the call from there is the rest of the call.
  pub record Passes (D : Data) : Type 0 where
    pub fewer : s.left ≤ a
    pub room : w.reads + (a - s.left) ≤ 9223372036854775808
    pub at : (cursor_after_skip w p s a).next ≡ goes (at_key p s.key s.probe)
    pub same : (st : State) → continuing (feed D) D.frame.config.cap st s.left (cursor_after_skip w p s a) ≡ continuing (feed D) D.frame.config.cap st a w
    pub good : CallInvariant (feed D) D.frame.config.cap (cursor_after_skip w p s a)

  module _ (D : Data) (g : CallInvariant (feed D) D.frame.config.cap w) (e : w.next ≡ goes p) (keyed : Keyed (feed D)) (l : Leads (feed D) p a s.left (at_key p s.key s.probe)) where
    none_after_skip : s.left ≡ a → Passes D
    none_after_skip o =
        let t : cursor_after_skip w p s a ≡ w = sym (after_skip_none o) in
        record {
          fewer = l.fewer;
          room = omega (arith, o, g.room.counted);
          at = ap (λ x. x.next) t ∙ e ∙ ap goes (sym (l.none_made o));
          same = λ st. rw (t, o);
          good = rw t g;
        }

    some_after_skip : s.left < a → Passes D
    some_after_skip h =
        let t = after_skip_some (λ o. omega arith) (at_key p s.key s.probe) refl (count_tried p w.patterns) refl in
        let q = l.some_made h D.frame.config.cap w.patterns in
        let r = skippable_rest (feed D) D.frame.config.cap keyed (a - s.left) a s.left w (goes (at_key p s.key s.probe)) (count_tried p w.patterns) (w.reads + (a - s.left)) (omega (arith, l.fewer)) refl g (rw e q) in
        record {
          fewer = l.fewer;
          room = omega (arith, r.1.room.counted);
          at = sym (ap (λ x. x.next) t);
          same = λ st. ap (λ x. continuing (feed D) D.frame.config.cap st s.left x) (sym t) ∙ r.0 st;
          good = subst (CallInvariant (feed D) D.frame.config.cap) t r.1;
        }

    pub passes : Passes D
    passes = ⊎_elim none_after_skip some_after_skip (eq-or-lt_of_le {n = s.left} {m = a} l.fewer)

module _ (D : Data) (w : Cursor) (p : Position) (h0 h : Cache) (x : Loaded) (y : Ready D w h0) (e : w.next ≡ goes p) (f : LoadedPass D.frame p.pass h) (o : LoadedCombination D.frame p.pass p.four h) (u : LoadedFor D.frame p.pass p.four x) where
  -- The reads skipped are those of the keys that the cache holds.
  module _ (a : ℕ) (s : SkipResult) (se : s ≡ skipped_reads D.words D.packed D.stars D.slots h.hashes (x.keys - (p.key + 1)) p.key p.probe a) where
    leads : Leads (feed D) p a s.left (at_key p s.key s.probe)
    unfolding feed
    leads =
        let n = here_of D w p h0 y e in
        let k : p.key < x.keys = subst (λ z. p.key < z) (sym u.keys) n.key in
        subst (λ (t : SkipResult). Leads (feed D) p a t.left (at_key p t.key t.probe)) (sym se)
        (skipped_reads_leads D p h.hashes x.keys u.keys (λ i l. o.cached.hash i (omega (arith, l, u.keys, o.cached.count))) (x.keys - (p.key + 1)) p.key p.probe a (omega arith) n.probe)

    pub skip_reads_passes : Passes w p s a D
    skip_reads_passes = passes w p s a D y.good e (every_combination_keyed D y.asked) leads

    -- The call is ready for the read that the skipped reads lead to.
    pub after_skip_ready : (v : Cursor) → v ≡ cursor_after_skip w p s a → Ready D v h
    after_skip_ready v ve =
        record {
          asked = y.asked;
          table = y.table;
          good = rw ve skip_reads_passes.good;
          pass = loaded_pass D.frame p.pass h f;
          four = loaded_four D.frame p.pass h f p.four o;
        }

-- an iteration from there is an iteration from here
pub iterated_from : (D : Data) (st : State) (a left : ℕ) (w v : Cursor) (h : Cache) (u : ControlFlow Searched (Cursor × ℕ)) → left ≤ a → continuing (feed D) D.frame.config.cap st left v ≡ continuing (feed D) D.frame.config.cap st a w → Iterated D st left v h u → Iterated D st a w h u
iterated_from D st a left w v h (Break reply) l e t = t ∙ ap searched e
iterated_from D st a left w v h (Continue (x, k)) l e t = (omega (arith, t.0), t.1 ∙ e, t.2)
