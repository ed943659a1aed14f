-- Demand 3 over any run: a list of search calls from a fresh state answers as document 01's calls on the undivided run do. Assumes nothing.
use mathlib.Core.Path.{◌≡◌, refl, sym, ◌∙◌, ap, ap₂, subst}
use Prim.Native.Nat.{ℕ, zero, suc, ◌-◌, ◌≤◌, ◌<◌}
use native.Mathlib.Omega.{arith}
use mathlib.Core.List.{List, [], ◌∷◌}
use mathlib.Core.Logic.{inl, inr}
use mathlib.Core.Bool.{Bool, true, false, cond}
use Rattle.std.specs.Prelude.{Option, None, Some}
use lib.ListN.{take, drop, length, length-drop}
use Rattle.undivided_run.specs.declared.state.Status.{Status}
use Rattle.undivided_run.specs.Undivided.{Cap}
use Rattle.undivided_run.specs.declared.state.Position.{Position as Read}
use Rattle.undivided_run.specs.declared.state.Next.{Next}
use Rattle.undivided_run.specs.declared.state.Next.TheVariants.{Goes as goes, Ends as ends}
use Rattle.undivided_run.specs.declared.state.Phase.{Phase as Stage}
use Rattle.undivided_run.specs.declared.state.Phase.TheVariants.{Fresh as new, At as at, Ended as done}
use Rattle.undivided_run.specs.declared.state.State.{State}
use Rattle.undivided_run.specs.Undivided.{Run, Feed, cases, gives, undivided}
use Rattle.undivided_run.specs.Calls.{Answer, candidate, used, over, refused, Fed, allowed, refusal, Machine, fresh, tried, candidates, serve, machine, calls, found}
use Rattle.undivided_run.specs.Step.{start, phase_of, count_tried, final, resume, zero_call, go, call, nine, Lent, search, search_call, refusal_of, question9_refuses, valid_at, next_read, first_read}
use Rattle.undivided_run.specs.Step.{Traverses}
use Rattle.undivided_run.proofs.Served.{Alike, call_alike, start_alike}
use Rattle.undivided_run.proofs.Traversal.{traverses_undivided}
use Rattle.undivided_run.proofs.Machine.{candidates_taken, progress}
use Rattle.combinations.specs.Lists.{All}
use Rattle.undivided_run.specs.PositionExists.{ReadExists, Keyed, Opened, Question8Holds}
use Rattle.undivided_run.specs.Demand3.{fed_for, feeds, FedAlike, FedAlikeList, Leaves, Demand3, MovesOn}
use Rattle.undivided_run.proofs.PositionExists.{run_here}
use Rattle.undivided_run.specs.PositionExists.{Within}
use Rattle.undivided_run.proofs.Bounds.{reads_bound, patterns_bound}

-- What the machine is fed for a call, read off the answer of the call.
fed_by : {C : Type 0} → Answer C → ℕ → Fed
fed_by (refused k) a = refusal k
fed_by (candidate x) a = allowed a
fed_by used a = allowed a
fed_by (over s) a = allowed a

-- The answer is no refusal.
abbrev pub Accepted : {C : Type 0} → Answer C → Type 0
Accepted (refused k) = ⊥
Accepted (candidate x) = Unit {0}
Accepted used = Unit {0}
Accepted (over s) = Unit {0}

-- The answer that `serve` gives is never a refusal.
module _ {C : Type 0} (g : Read → Option C) where
  fed_serve : (s : Status) (rs : List Read) (a b : ℕ) → fed_by (serve g s rs a).0 b ≡ allowed b
  unfolding serve fed_by cases
  fed_serve s [] a b = refl
  fed_serve s (r ∷ rs) zero b = refl
  fed_serve s (r ∷ rs) (suc a) b = by (g r) (serve g s rs a) (fed_serve s rs a b)
    where
      by : (o : Option C) (u : Answer C × ℕ) → fed_by u.0 b ≡ allowed b → let v : Answer C × ℕ = cases o (u.0, suc u.1) (λ x. (candidate x, 1)) in fed_by v.0 b ≡ allowed b
      by None u h = h
      by (Some x) u h = refl

-- A refused call hands back the state received, whatever it was lent.
module _ {C : Type 0} (g : Read → Option C) (valid : Read → Bool) (next : Read → ℕ → Next) where
  abbrev Keeps : State → Answer C × State → Type 0
  Keeps st t = (k : ℕ) → t.0 ≡ refused k → t.1 ≡ st

  fed_read : (b : Bool) (o : Option C) (st st' : State) (t : Answer C × State) (z : Bool) (f : ℕ) → fed_by t.0 f ≡ cond z (refusal 9) (allowed f) → fed_by (cond b (cases o t (λ x. (candidate x, st'))) (refused 9, st)).0 f ≡ cond (cond b (cases o z (λ x. false)) true) (refusal 9) (allowed f)
  unfolding cases fed_by
  fed_read false o st st' t z f h = refl
  fed_read true None st st' t z f h = h
  fed_read true (Some x) st st' t z f h = refl

  go_fed : (a : ℕ) (st : State) (w : Next) (n m f : ℕ) → fed_by (go g valid next st a w n m).0 f ≡ cond (nine g valid next a w n) (refusal 9) (allowed f)
  unfolding go nine fed_by
  go_fed zero st (ends s) n m f = refl
  go_fed zero st (goes r) n m f = refl
  go_fed (suc a) st (ends s) n m f = refl
  go_fed (suc a) st (goes r) n m f = fed_read (valid r) (g r) st _ _ _ f (go_fed a st _ _ _ f)

  call_fed : (first : Next) (st : State) (a f : ℕ) → fed_by (call g valid next first st a).0 f ≡ cond (nine g valid next a (resume first st.phase) st.patterns) (refusal 9) (allowed f)
  unfolding call zero_call nine fed_by
  call_fed first st zero f = by (resume first st.phase)
    where
      by : (w : Next) → fed_by (zero_call {C = C} st w).0 f ≡ allowed f
      by (ends s) = refl
      by (goes r) = refl
  call_fed first st (suc a) f = go_fed (suc a) st _ _ _ f

  -- Where every entry is valid, question 9 refuses nothing.
  no_nine : ((r : Read) → valid r ≡ true) → (a : ℕ) (w : Next) (n : ℕ) → nine g valid next a w n ≡ false
  unfolding nine cases
  no_nine ok zero w n = refl
  no_nine ok (suc a) (ends s) n = refl
  no_nine ok (suc a) (goes r) n = rw (ok r) (by (g r) (no_nine ok a _ _))
    where
      by : (o : Option C) {z : Bool} → z ≡ false → cases o z (λ x. false) ≡ false
      by None h = h
      by (Some x) h = refl

  keeps_read : (b : Bool) (o : Option C) (st st' : State) (t : Answer C × State) → Keeps st t → Keeps st (cond b (cases o t (λ x. (candidate x, st'))) (refused 9, st))
  unfolding cases
  keeps_read false o st st' t h k e = refl
  keeps_read true None st st' t h k e = h k e
  keeps_read true (Some x) st st' t h k e = cc

  go_keeps : (a : ℕ) (st : State) (w : Next) (n m : ℕ) → Keeps st (go g valid next st a w n m)
  unfolding go
  go_keeps zero st (ends s) n m k e = cc
  go_keeps zero st (goes r) n m k e = cc
  go_keeps (suc a) st (ends s) n m k e = cc
  go_keeps (suc a) st (goes r) n m k e = keeps_read (valid r) (g r) st _ _ (go_keeps a st _ _ _) k e

  call_keeps : (first : Next) (st : State) (a : ℕ) → Keeps st (call g valid next first st a)
  unfolding call zero_call
  call_keeps first st zero k e = by (resume first st.phase) k e
    where
      by : (w : Next) → Keeps st (zero_call st w)
      by (ends s) k e = cc
      by (goes r) k e = refl
  call_keeps first st (suc a) k e = go_keeps (suc a) st _ _ _ k e

-- A state whose phase is fresh counts nothing. A call keeps this true.
abbrev pub New : State → Type 0
New st = st.phase ≡ new → (st.patterns ≡ 0) × (st.reads ≡ 0)

module _ {C : Type 0} (g : Read → Option C) (valid : Read → Bool) (next : Read → ℕ → Next) where
  not_new : {n m : ℕ} (w : Next) → New (record { phase = phase_of w; patterns = n; reads = m })
  unfolding phase_of
  not_new (goes r) e = absurd (let z : ◌≡◌ {A = ℕ} 0 1 = cc in omega arith)
  not_new (ends s) e = absurd (let z : ◌≡◌ {A = ℕ} 0 1 = cc in omega arith)

  new_read : (b : Bool) (o : Option C) (st st' : State) (t : Answer C × State) → New st → New st' → New t.1 → New (cond b (cases o t (λ x. (candidate x, st'))) (refused 9, st)).1
  unfolding cases
  new_read false o st st' t p q h = p
  new_read true None st st' t p q h = h
  new_read true (Some x) st st' t p q h = q

  go_new : (a : ℕ) (st : State) (w : Next) (n m : ℕ) → New st → New (go g valid next st a w n m).1
  unfolding go phase_of
  go_new zero st (ends s) n m h = not_new (ends s)
  go_new zero st (goes r) n m h = not_new (goes r)
  go_new (suc a) st (ends s) n m h = not_new (ends s)
  go_new (suc a) st (goes r) n m h = new_read (valid r) (g r) st _ _ h (not_new (next r (count_tried r n))) (go_new a st (next r (count_tried r n)) (count_tried r n) (suc m) h)

  call_new : (first : Next) (st : State) (a : ℕ) → New st → New (call g valid next first st a).1
  unfolding call zero_call phase_of
  call_new first st zero h = by (resume first st.phase)
    where
      by : (w : Next) → New (zero_call {C = C} st w).1
      by (ends s) = not_new (ends s)
      by (goes r) = h
  call_new first st (suc a) h = go_new (suc a) st (resume first st.phase) st.patterns st.reads h

search_new : {E C : Type 0} (st : State) (x : Lent E C) → New st → New (search_call st x).1
unfolding search_call search cases
search_new st x h = by (x.asked st)
  where
    by : (o : Option ℕ) → New (cases o (search x.feed x.cap st x.allowance) λ k. (refused k, st)).1
    by None = call_new (gives x.feed) (valid_at x.feed) (next_read x.feed x.cap) (first_read x.feed x.cap) st x.allowance h
    by (Some j) = h

calls_new : {E C : Type 0} (st : State) (xs : List (Lent E C)) → New st → New (calls search_call st xs).1
unfolding calls
calls_new st [] h = h
calls_new st (x ∷ xs) h = calls_new (search_call st x).1 xs (search_new st x h)

-- A state that is at its next read has counted a read. A call keeps this true.
abbrev pub ReadBefore : State → Type 0
ReadBefore st = (r : Read) → st.phase ≡ at r → 0 < st.reads

module _ {C : Type 0} (g : Read → Option C) (valid : Read → Bool) (next : Read → ℕ → Next) where
  read_read : (b : Bool) (o : Option C) (st st' : State) (t : Answer C × State) → ReadBefore st → ReadBefore st' → ReadBefore t.1 → ReadBefore (cond b (cases o t (λ x. (candidate x, st'))) (refused 9, st)).1
  unfolding cases
  read_read false o st st' t p q h = p
  read_read true None st st' t p q h = h
  read_read true (Some x) st st' t p q h = q

  go_read : (a : ℕ) (st : State) (w : Next) (n m : ℕ) → ReadBefore st → (a ≡ 0 → 0 < m) → ReadBefore (go g valid next st a w n m).1
  unfolding go
  go_read zero st (ends s) n m h p r e = absurd (let z : ◌≡◌ {A = ℕ} 0 1 = cc in omega arith)
  go_read zero st (goes q) n m h p r e = p refl
  go_read (suc a) st (ends s) n m h p r e = absurd (let z : ◌≡◌ {A = ℕ} 0 1 = cc in omega arith)
  go_read (suc a) st (goes q) n m h p r e = read_read (valid q) (g q) st _ _ h (λ r e. omega arith) (go_read a st _ _ (suc m) h (λ _. omega arith)) r e

  call_read : (first : Next) (st : State) (a : ℕ) → ReadBefore st → ReadBefore (call g valid next first st a).1
  unfolding call zero_call
  call_read first st zero h = by (resume first st.phase)
    where
      by : (w : Next) → ReadBefore (zero_call {C = C} st w).1
      by (ends s) r e = absurd (let z : ◌≡◌ {A = ℕ} 0 1 = cc in omega arith)
      by (goes q) r e = h r e
  call_read first st (suc a) h = go_read (suc a) st (resume first st.phase) st.patterns st.reads h (λ e. absurd (omega arith))

search_read : {E C : Type 0} (st : State) (x : Lent E C) → ReadBefore st → ReadBefore (search_call st x).1
unfolding search_call search cases
search_read st x h = by (x.asked st)
  where
    by : (o : Option ℕ) → ReadBefore (cases o (search x.feed x.cap st x.allowance) λ k. (refused k, st)).1
    by None = call_read (gives x.feed) (valid_at x.feed) (next_read x.feed x.cap) (first_read x.feed x.cap) st x.allowance h
    by (Some j) = h

calls_read : {E C : Type 0} (st : State) (xs : List (Lent E C)) → ReadBefore st → ReadBefore (calls search_call st xs).1
unfolding calls
calls_read st [] h = h
calls_read st (x ∷ xs) h = calls_read (search_call st x).1 xs (search_read st x h)

all_drop : {A : Type 0} (P : A → Type 0) (n : ℕ) (xs : List A) → All P xs → All P (drop n xs)
all_drop P zero xs h = h
all_drop P (suc n) [] h = tt
all_drop P (suc n) (x ∷ xs) h = all_drop P n xs h.1

pub refused_keeps : {E C : Type 0} (st : State) (x : Lent E C) (k : ℕ) → (search_call st x).0 ≡ refused k → (search_call st x).1 ≡ st
unfolding search_call search cases
refused_keeps st x k e = by (x.asked st) e
  where
    by : (o : Option ℕ) → (cases o (search x.feed x.cap st x.allowance) λ k. (refused k, st)).0 ≡ refused k → (cases o (search x.feed x.cap st x.allowance) λ k. (refused k, st)).1 ≡ st
    by None h = call_keeps _ _ _ _ st x.allowance k h
    by (Some j) h = refl

-- The answer of a call is a refusal with exactly the number that the questions refuse it under.
fed_right : {E C : Type 0} (st : State) (x : Lent E C) → fed_by (search_call st x).0 x.allowance ≡ fed_for (refusal_of st x) x.allowance
unfolding search_call search refusal_of question9_refuses cases fed_by fed_for
fed_right st x = by (x.asked st)
  where
    pick : (b : Bool) → cond b (refusal 9) (allowed x.allowance) ≡ fed_for (cond b (Some 9) None) x.allowance
    pick true = refl
    pick false = refl

    by : (o : Option ℕ) → fed_by (cases o (search x.feed x.cap st x.allowance) λ k. (refused k, st)).0 x.allowance ≡ fed_for (cases o (cond (question9_refuses st x) (Some 9) None) λ k. Some k) x.allowance
    by None = call_fed (gives x.feed) (valid_at x.feed) (next_read x.feed x.cap) (first_read x.feed x.cap) st x.allowance x.allowance ∙ pick (question9_refuses st x)
    by (Some k) = refl

-- A call whose answer is no refusal is refused by no question.
accepted_none : {C : Type 0} (w : Answer C) (o : Option ℕ) (a : ℕ) → Accepted w → fed_by w a ≡ fed_for o a → o ≡ None
unfolding fed_by fed_for
accepted_none w None a p e = refl
accepted_none (refused j) (Some k) a p e = absurd p
accepted_none (candidate x) (Some k) a p e = cc
accepted_none used (Some k) a p e = cc
accepted_none (over s) (Some k) a p e = cc

module _ {E C : Type 0} (F : Feed E C) (cap : Cap) where
  module _ (opened : Opened F) where
    ok : (r : Read) → valid_at F r ≡ true
    unfolding valid_at
    ok r = opened _

    -- Question 9 never refuses a call that is given what the run is fed.
    pub never_nine : (st : State) (x : Lent E C) → x.feed ≡ F → x.asked st ≡ None → refusal_of st x ≡ None
    unfolding refusal_of question9_refuses cases valid_at
    never_nine st x e z = rw (z, no_nine (gives x.feed) (valid_at x.feed) (next_read x.feed x.cap) (λ r. rw e (opened _)) x.allowance (resume (first_read x.feed x.cap) st.phase) st.patterns)

    abbrev run : Run
    run = undivided F cap

    -- The search state and the machine's state agree.
    abbrev Like : State → Machine → Type 0
    Like = Alike (gives F) (valid_at F) ok (first_read F cap) (next_read F cap) run

    abbrev Agree : Answer C × State → Answer C × Machine → Type 0
    Agree t u = (t.0 ≡ u.0) × Like t.1 u.1

    abbrev Agree₂ : List (Answer C) × State → List (Answer C) × Machine → Type 0
    Agree₂ t u = (t.0 ≡ u.0) × Like t.1 u.1

    search_agrees : (st : State) (mc : Machine) (a : ℕ) → Like st mc → let t = search F cap st a in Agree t (machine (gives F) run mc (fed_by t.0 a))
    unfolding search machine
    search_agrees st mc a h =
        let e = call_alike (gives F) (valid_at F) ok (first_read F cap) (next_read F cap) run st mc a h in
        let f : fed_by (search F cap st a).0 a ≡ allowed a = ap (λ w. fed_by w a) e.0 ∙ fed_serve (gives F) _ _ a a in
        rw f e

    refusal_agrees : (st st' : State) (mc : Machine) (w : Answer C) (k a : ℕ) → w ≡ refused k → st' ≡ st → Like st mc → Agree (w, st') (machine (gives F) run mc (fed_by w a))
    unfolding machine fed_by
    refusal_agrees st st' mc w k a e z h = rw (e, z) (refl, h)

    same_agrees : (st : State) (mc : Machine) (x : Lent E C) → x.feed ≡ F → x.cap ≡ cap → Like st mc → let t = search_call st x in Agree t (machine (gives F) run mc (fed_by t.0 x.allowance))
    unfolding search_call cases
    same_agrees st mc x e f h = by (x.asked st)
      where
        by : (o : Option ℕ) → let t : Answer C × State = cases o (search x.feed x.cap st x.allowance) (λ k. (refused k, st)) in Agree t (machine (gives F) run mc (fed_by t.0 x.allowance))
        by None = rw (e, f) (search_agrees st mc x.allowance h)
        by (Some k) = refusal_agrees st st mc (refused k) k x.allowance refl refl h

    call_agrees : (st : State) (mc : Machine) (x : Lent E C) → FedAlike F cap st x → Like st mc → let t = search_call st x in Agree t (machine (gives F) run mc (fed_by t.0 x.allowance))
    call_agrees st mc x fair h = by (search_call st x).0 refl
      where
        lent : Accepted (search_call st x).0 → let t = search_call st x in Agree t (machine (gives F) run mc (fed_by t.0 x.allowance))
        lent p =
            let z = fair (accepted_none (search_call st x).0 (refusal_of st x) x.allowance p (fed_right st x)) in
            same_agrees st mc x z.0 z.1 h

        by : (w : Answer C) → (search_call st x).0 ≡ w → let t = search_call st x in Agree t (machine (gives F) run mc (fed_by t.0 x.allowance))
        by (refused k) e = refusal_agrees st _ mc _ k x.allowance e (refused_keeps st x k e) h
        by (candidate c) e = lent (rw e tt)
        by used e = lent (rw e tt)
        by (over s) e = lent (rw e tt)

    calls_agree : (st : State) (mc : Machine) (xs : List (Lent E C)) → FedAlikeList F cap st xs → Like st mc → Agree₂ (calls search_call st xs) (calls (machine (gives F) run) mc (feeds st xs))
    unfolding calls feeds
    calls_agree st mc [] fair h = (refl, h)
    calls_agree st mc (x ∷ xs) fair h =
        let e : Agree (search_call st x) (machine (gives F) run mc (fed_for (refusal_of st x) x.allowance)) = rw (fed_right st x) at (call_agrees st mc x fair.0 h) in
        let es = calls_agree (search_call st x).1 (machine (gives F) run mc (fed_for (refusal_of st x) x.allowance)).1 xs fair.1 e.1 in
        (ap₂ ◌∷◌ e.0 es.0, es.1)

  -- ---- What a list leaves: the state's counts and phase are those of the machine.
  pub record Left (st : State) (mc : Machine) : Type 0 where
    pub reads : st.reads ≡ mc.taken
    pub patterns : st.patterns ≡ tried (take mc.taken (undivided F cap).reads)
    pub status : final st.phase ≡ mc.final
    pub leaves : Leaves (undivided F cap) mc st

  start_left : Left start fresh
  unfolding start fresh final tried
  start_left =
      record {
        reads = refl;
        patterns = refl;
        status = refl;
        leaves = record { ended = λ s e. absurd (let z : ◌≡◌ {A = ℕ} 0 1 = cc in omega arith); unread = λ _ _. refl; onward = λ _ p. absurd (omega (arith, p)) };
      }

  module _ (opened : Opened F) where
    not_both : {A : Type 0} (x : A) (o : Option A) → None ≡ o → o ≡ Some x → ⊥
    not_both x o p q = let z : ◌≡◌ {A = ℕ} 0 1 = cc in omega arith

    head_at : (q : Read) (n : ℕ) (rs : List Read) (s : Status) → Traverses (next_read F cap) (goes q) n rs s → (r : Read) × (later : List Read) × (rs ≡ r ∷ later) × (q ≡ r)
    head_at q n [] s h = absurd (let z : ◌≡◌ {A = ℕ} 0 1 = cc (h) in omega arith)
    head_at q n (r ∷ rs) s h = (r, rs, refl, cc h.0)

    alike_leaves : (st : State) (mc : Machine) → Like opened st mc → New st → ReadBefore st → Leaves (undivided F cap) mc st
    unfolding resume final
    alike_leaves st mc h zeroed before = by st.phase refl h.status h.traverses
      where
        by : (g : Stage) → st.phase ≡ g → final g ≡ mc.final → Traverses (next_read F cap) (resume (first_read F cap) g) st.patterns (drop mc.taken (undivided F cap).reads) (undivided F cap).status → Leaves (undivided F cap) mc st
        by new e f w =
            record {
              ended = λ s p. absurd (not_both s mc.final f p);
              unread = λ _ _. e;
              onward = λ _ p. absurd (omega (arith, h.reads, zeroed e, p));
            }
        by (at q) e f w =
            record {
              ended = λ s p. absurd (not_both s mc.final f p);
              unread = λ _ p. absurd (omega (arith, h.reads, before q e, p));
              onward = λ _ _. let x = head_at q st.patterns _ _ w in (x.0, x.1, x.2, e ∙ ap at x.3);
            }
        by (done s) e f w =
            record {
              ended = λ t p. let z : s ≡ t = cc in e ∙ ap done z;
              unread = λ p _. absurd (not_both s mc.final (sym p) (sym f));
              onward = λ p _. absurd (not_both s mc.final (sym p) (sym f));
            }

    alike_left : (st : State) (mc : Machine) → Like opened st mc → New st → ReadBefore st → Left st mc
    alike_left st mc h p q = record { reads = h.reads; patterns = h.patterns; status = h.status; leaves = alike_leaves st mc h p q }

    -- Calls on a state that agrees with the machine's.
    listed_from : (st : State) (mc : Machine) (xs : List (Lent E C)) → FedAlikeList F cap st xs → Like opened st mc → New st → ReadBefore st → let t = calls search_call st xs in let u = calls (machine (gives F) (undivided F cap)) mc (feeds st xs) in (t.0 ≡ u.0) × Left t.1 u.1
    listed_from st mc xs fair h p q =
        let e = calls_agree opened st mc xs fair h in
        (e.0, alike_left _ _ e.1 (calls_new st xs p) (calls_read st xs q))

    -- Each combination that exists has a key. This is known once a call was not refused, since questions 1 to 5 make it so.
    abbrev pub KeyedList : State → List (Lent E C) → Type 0
    KeyedList st [] = Unit {0}
    KeyedList st (x ∷ xs) = (refusal_of st x ≡ None → Keyed F) × KeyedList (search_call st x).1 xs

    start_new : New start
    unfolding start
    start_new _ = (refl, refl)

    start_read : ReadBefore start
    unfolding start
    start_read r e = absurd (let z : ◌≡◌ {A = ℕ} 0 1 = cc in omega arith)

    start_like : Keyed F → Like opened start fresh
    start_like keyed = start_alike (gives F) (valid_at F) (ok opened) (first_read F cap) (next_read F cap) (undivided F cap) (traverses_undivided F cap keyed)

    -- A first call that is refused leaves the state as it was.
    refused_first : (x : Lent E C) (k : ℕ) → refusal_of start x ≡ Some k → ((search_call start x).0 ≡ refused k) × ((search_call start x).1 ≡ start)
    unfolding fed_for fed_by
    refused_first x k e = by (search_call start x).0 refl (fed_right start x ∙ ap (λ o. fed_for o x.allowance) e)
      where
        by : (w : Answer C) → (search_call start x).0 ≡ w → fed_by (search_call start x).0 x.allowance ≡ refusal k → ((search_call start x).0 ≡ refused k) × ((search_call start x).1 ≡ start)
        by (refused j) p f = let z : j ≡ k = cc in let q = p ∙ ap refused z in (q, refused_keeps start x k q)
        by (candidate c) p f = absurd (let z : ◌≡◌ {A = ℕ} 0 1 = cc in omega arith)
        by used p f = absurd (let z : ◌≡◌ {A = ℕ} 0 1 = cc in omega arith)
        by (over s) p f = absurd (let z : ◌≡◌ {A = ℕ} 0 1 = cc in omega arith)

    abbrev Listed : State → Machine → List (Lent E C) → Type 0
    Listed st mc xs = let t = calls search_call st xs in let u = calls (machine (gives F) (undivided F cap)) mc (feeds st xs) in (t.0 ≡ u.0) × Left t.1 u.1

    refused_listed : (x : Lent E C) (xs : List (Lent E C)) (k : ℕ) → refusal_of start x ≡ Some k → Listed (search_call start x).1 fresh xs → Listed start fresh (x ∷ xs)
    unfolding calls feeds fed_for machine
    refused_listed x xs k e h = rw e (ap₂ ◌∷◌ (refused_first x k e).0 h.0, h.1)

    first_call : (x : Lent E C) (xs : List (Lent E C)) → FedAlikeList F cap start (x ∷ xs) → KeyedList start (x ∷ xs) → (FedAlikeList F cap start xs → KeyedList start xs → Listed start fresh xs) → (o : Option ℕ) → refusal_of start x ≡ o → Listed start fresh (x ∷ xs)
    first_call x xs fair keyed ih None e = listed_from start fresh (x ∷ xs) fair (start_like (keyed.0 e)) start_new start_read
    first_call x xs fair keyed ih (Some k) e =
        let s = (refused_first x k e).1 in
        refused_listed x xs k e (rw s (ih (rw s at fair.1) (rw s at keyed.1)))

    listed : (xs : List (Lent E C)) → FedAlikeList F cap start xs → KeyedList start xs → Listed start fresh xs
    unfolding calls feeds
    listed [] fair keyed = (refl, start_left)
    listed (x ∷ xs) fair keyed = first_call x xs fair keyed (listed xs) (refusal_of start x) refl

    -- Demand 3 of a list whose calls are lent what the run is fed unless they are refused.
    pub demand3 : (xs : List (Lent E C)) → FedAlikeList F cap start xs → KeyedList start xs → Demand3 F cap xs
    demand3 xs fair keyed =
        let h = listed xs fair keyed in
        record {
          answers = h.0;
          found_in_order = ap found h.0 ∙ candidates_taken (gives F) (undivided F cap) (feeds start xs) ∙ ap (λ n. candidates (gives F) (take n (undivided F cap).reads)) (sym h.1.reads);
          reads = h.1.reads;
          patterns = h.1.patterns ∙ ap (λ n. tried (take n (undivided F cap).reads)) (sym h.1.reads);
          status = h.1.status;
          leaves = h.1.leaves;
        }

    -- ---- After such a list, a call not refused and allowed a read takes a read of the run, unless none is left.
    moves_on : (st : State) (mc : Machine) (x : Lent E C) → FedAlike F cap st x → Like opened st mc → refusal_of st x ≡ None → 0 < x.allowance → MovesOn F cap st x
    unfolding fed_for
    moves_on st mc x fair h o p = by (drop mc.taken (undivided F cap).reads) refl
      where
        fed : Agree opened (search_call st x) (machine (gives F) (undivided F cap) mc (allowed x.allowance))
        fed = rw (fed_right st x, o) at (call_agrees opened st mc x fair h)

        some_left : (r : Read) (rs : List Read) → drop mc.taken (undivided F cap).reads ≡ r ∷ rs → mc.taken < length (undivided F cap).reads
        some_left r rs e = omega (arith, length-drop mc.taken (undivided F cap).reads, ap length e)

        by : (rs : List Read) → drop mc.taken (undivided F cap).reads ≡ rs → MovesOn F cap st x
        by [] e = inr (rw h.reads e, fed.0 ∙ (unfold machine serve in rw e))
        by (r ∷ rs) e =
            let z : x.allowance ≡ suc (x.allowance - 1) = omega arith in
            inl (omega (arith, h.reads, fed.1.reads, ap (λ a. (machine (gives F) (undivided F cap) mc (allowed a)).1.taken) z, progress (gives F) (undivided F cap) mc (x.allowance - 1) (some_left r rs e)))

    pub moves_after : Keyed F → (xs : List (Lent E C)) → FedAlikeList F cap start xs → (x : Lent E C) → let st = (calls search_call start xs).1 in FedAlike F cap st x → refusal_of st x ≡ None → 0 < x.allowance → MovesOn F cap st x
    moves_after keyed xs fair x f o p = moves_on _ _ x f (calls_agree opened start fresh xs fair (start_like keyed)).1 o p

    -- ---- Question 8 never refuses a state that such a list left.
    head_here : (r : Read) (n : ℕ) (rs : List Read) (s : Status) → Traverses (next_read F cap) (goes r) n rs s → All (ReadExists F) rs → ReadExists F r
    head_here r n [] s h p = absurd (let z : ◌≡◌ {A = ℕ} 0 1 = cc (h) in omega arith)
    head_here r n (x ∷ rs) s h p = let e : x ≡ r = cc h.0 in subst (ReadExists F) e p.0

    module _ (keyed : Keyed F) (w : Within F) where
      counted : (st : State) (mc : Machine) → Like opened st mc → (st.patterns ≤ 162656256) × (st.reads ≤ 4611686018427387904)
      counted st mc h = (omega (arith, h.patterns, patterns_bound F w cap keyed mc.taken), omega (arith, h.reads, h.fits, reads_bound F w cap))

      eight_at : (st : State) (mc : Machine) → Like opened st mc → New st → (g : Stage) → st.phase ≡ g → Question8Holds F g st.patterns st.reads
      eight_at st mc h z new e = z e
      eight_at st mc h z (at r) e =
          let c = counted st mc h in
          (head_here r st.patterns (drop mc.taken (undivided F cap).reads) (undivided F cap).status (unfold resume in (rw e at h.traverses)) (all_drop (ReadExists F) mc.taken (undivided F cap).reads (run_here F cap)), c.0, c.1)
      eight_at st mc h z (done s) e = counted st mc h

      pub eight : (xs : List (Lent E C)) → FedAlikeList F cap start xs → let st = (calls search_call start xs).1 in Question8Holds F st.phase st.patterns st.reads
      eight xs fair = eight_at _ _ (calls_agree opened start fresh xs fair (start_like keyed)).1 (calls_new start xs start_new) _ refl
