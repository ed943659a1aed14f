-- What holds of one call, whatever its state and whatever it is lent: if it is not refused and is allowed a read, it reads a slot unless none is left;
-- "allowance used" means exactly the allowance; an ended state ends again alike; and with allowance 0 the call is refused, ends where no read is left,
-- or leaves the state received. Assumes nothing.
use mathlib.Core.Path.{◌≡◌, refl, ◌∙◌}
use Prim.Native.Nat.{ℕ, zero, suc, ◌+◌, ◌≤◌, ◌<◌}
use native.Mathlib.Omega.{arith}
use mathlib.Core.Logic.{◌⊎◌, inl, inr}
use mathlib.Core.Bool.{Bool, true, false, cond}
use Rattle.std.specs.Prelude.{Option, None, Some}
use Rattle.undivided_run.specs.declared.state.Status.{Status}
use Rattle.undivided_run.specs.declared.state.Position.{Position as Read}
use Rattle.undivided_run.specs.declared.state.Next.{Next}
use Rattle.undivided_run.specs.declared.state.Next.TheVariants.{Goes as goes, Ends as ends}
use Rattle.undivided_run.specs.declared.state.Phase.TheVariants.{Ended as done}
use Rattle.undivided_run.specs.declared.state.State.{State}
use Rattle.undivided_run.specs.Undivided.{Cap, Feed, cases, gives}
use Rattle.undivided_run.specs.Calls.{Answer, candidate, used, over, refused}
use Rattle.undivided_run.specs.Step.{phase_of, count_tried, resume, zero_call, go, call, nine, Lent, search, search_call, refusal_of, question9_refuses, valid_at, next_read, first_read}
use Rattle.undivided_run.specs.Demand3.{ProgressAny, UsedExactly, NoReadMade, ZeroKeeps, EndsAlike}

-- ---- One read, by whether its entry is valid and what it gives.
module _ {C : Type 0} (st k : State) (t : Answer C × State) (m : ℕ) where
  abbrev then : Bool → Option C → Answer C × State
  then b o = cond b (cases o t λ x. (candidate x, k)) (refused 9, st)

  read_least : (b : Bool) (o : Option C) (z : Bool) → k.reads ≡ suc m → cond b (cases o z λ x. false) true ≡ false → (z ≡ false → suc m ≤ t.1.reads) → suc m ≤ (then b o).1.reads
  unfolding cases
  read_least false o z e h ih = absurd (let y : ◌≡◌ {A = ℕ} 0 1 = cc in omega arith)
  read_least true None z e h ih = ih h
  read_least true (Some x) z e h ih = omega arith

  read_used : (b : Bool) (o : Option C) (a : ℕ) → (t.0 ≡ used → t.1.reads ≡ suc m + a) → (then b o).0 ≡ used → (then b o).1.reads ≡ m + suc a
  unfolding cases
  read_used false o a ih h = absurd (let y : ◌≡◌ {A = ℕ} 0 1 = cc in omega arith)
  read_used true None a ih h = omega (arith, ih h)
  read_used true (Some x) a ih h = absurd (let y : ◌≡◌ {A = ℕ} 0 1 = cc in omega arith)

-- ---- The reads of a call.
module _ {C : Type 0} (g : Read → Option C) (valid : Read → Bool) (next : Read → ℕ → Next) where
  go_least : (a : ℕ) (st : State) (w : Next) (n m : ℕ) → nine g valid next a w n ≡ false → m ≤ (go g valid next st a w n m).1.reads
  unfolding go nine
  go_least zero st (ends s) n m h = omega arith
  go_least zero st (goes r) n m h = omega arith
  go_least (suc a) st (ends s) n m h = omega arith
  go_least (suc a) st (goes r) n m h =
      let k = count_tried r n in
      omega (arith, read_least st (record { phase = phase_of (next r k); patterns = k; reads = suc m }) (go g valid next st a (next r k) k (suc m)) m (valid r) (g r) _ refl h (go_least a st (next r k) k (suc m)))

  go_moves : (a : ℕ) (st : State) (r : Read) (n m : ℕ) → nine g valid next (suc a) (goes r) n ≡ false → m < (go g valid next st (suc a) (goes r) n m).1.reads
  unfolding go nine
  go_moves a st r n m h = read_least st _ _ m (valid r) (g r) _ refl h (go_least a st (next r (count_tried r n)) (count_tried r n) (suc m))

  go_used : (a : ℕ) (st : State) (w : Next) (n m : ℕ) → (go g valid next st a w n m).0 ≡ used → (go g valid next st a w n m).1.reads ≡ m + a
  unfolding go
  go_used zero st (ends s) n m h = absurd (let y : ◌≡◌ {A = ℕ} 0 1 = cc in omega arith)
  go_used zero st (goes r) n m h = omega arith
  go_used (suc a) st (ends s) n m h = absurd (let y : ◌≡◌ {A = ℕ} 0 1 = cc in omega arith)
  go_used (suc a) st (goes r) n m h = read_used st _ _ m (valid r) (g r) a (go_used a st (next r (count_tried r n)) (count_tried r n) (suc m)) h

  read_refused : (st : State) (b : Bool) (o : Option C) (t : Answer C × State) (k : State) (i : ℕ) → (t.0 ≡ refused i → 9 ≡ i) → (cond b (cases o t λ x. (candidate x, k)) (refused 9, st)).0 ≡ refused i → 9 ≡ i
  unfolding cases
  read_refused st false o t k i ih h = cc
  read_refused st true None t k i ih h = ih h
  read_refused st true (Some x) t k i ih h = absurd (let y : ◌≡◌ {A = ℕ} 0 1 = cc in omega arith)

  go_refused : (a : ℕ) (st : State) (w : Next) (n m i : ℕ) → (go g valid next st a w n m).0 ≡ refused i → 9 ≡ i
  unfolding go
  go_refused zero st (ends s) n m i h = absurd (let y : ◌≡◌ {A = ℕ} 0 1 = cc in omega arith)
  go_refused zero st (goes r) n m i h = absurd (let y : ◌≡◌ {A = ℕ} 0 1 = cc in omega arith)
  go_refused (suc a) st (ends s) n m i h = absurd (let y : ◌≡◌ {A = ℕ} 0 1 = cc in omega arith)
  go_refused (suc a) st (goes r) n m i h = read_refused st (valid r) (g r) _ _ i (go_refused a st (next r (count_tried r n)) (count_tried r n) (suc m) i) h

  call_refused : (first : Next) (st : State) (a i : ℕ) → (call g valid next first st a).0 ≡ refused i → 9 ≡ i
  unfolding call zero_call
  call_refused first st zero i h = by (resume first st.phase) h
    where
      by : (v : Next) → (zero_call {C = C} st v).0 ≡ refused i → 9 ≡ i
      by (ends s) e = absurd (let y : ◌≡◌ {A = ℕ} 0 1 = cc in omega arith)
      by (goes r) e = absurd (let y : ◌≡◌ {A = ℕ} 0 1 = cc in omega arith)
  call_refused first st (suc a) i h = go_refused (suc a) st (resume first st.phase) st.patterns st.reads i h

  call_used : (first : Next) (st : State) (a : ℕ) → (call g valid next first st a).0 ≡ used → (call g valid next first st a).1.reads ≡ st.reads + a
  unfolding call zero_call
  call_used first st zero h = by (resume first st.phase) h
    where
      by : (w : Next) → (zero_call {C = C} st w).0 ≡ used → (zero_call {C = C} st w).1.reads ≡ st.reads + 0
      by (ends s) h = absurd (let y : ◌≡◌ {A = ℕ} 0 1 = cc in omega arith)
      by (goes r) h = omega arith
  call_used first st (suc a) h = go_used (suc a) st (resume first st.phase) st.patterns st.reads h

  abbrev Moves : Next → State → ℕ → Type 0
  Moves first st a = (st.reads < (call g valid next first st a).1.reads) ⊎ ((s : Status) × (resume first st.phase ≡ ends s) × ((call g valid next first st a).0 ≡ over s))

  call_moves : (first : Next) (st : State) (a : ℕ) → nine g valid next a (resume first st.phase) st.patterns ≡ false → 0 < a → Moves first st a
  unfolding call
  call_moves first st zero h p = absurd (omega arith)
  call_moves first st (suc a) h p = by (resume first st.phase) refl h
    where
      by : (w : Next) → resume first st.phase ≡ w → nine g valid next (suc a) w st.patterns ≡ false → (st.reads < (go g valid next st (suc a) w st.patterns st.reads).1.reads) ⊎ ((s : Status) × (w ≡ ends s) × ((go g valid next st (suc a) w st.patterns st.reads).0 ≡ over s))
      by (goes r) e z = inl (go_moves a st r st.patterns st.reads z)
      by (ends s) e z = inr (s, refl, (unfold go in refl))

  call_ends : (first : Next) (st : State) (a : ℕ) (s : Status) → st.phase ≡ done s → call g valid next first st a ≡ (over s, st)
  unfolding call zero_call go resume
  call_ends first st zero s e = rw e
  call_ends first st (suc a) s e = rw e

-- ---- The search call.
cleared : (o : Option ℕ) (b : Bool) → cases o (cond b (Some 9) None) (λ k. Some k) ≡ None → (o ≡ None) × (b ≡ false)
unfolding cases
cleared None true h = absurd (let y : ◌≡◌ {A = ℕ} 0 1 = cc in omega arith)
cleared None false h = (refl, refl)
cleared (Some k) b h = absurd (let y : ◌≡◌ {A = ℕ} 0 1 = cc in omega arith)

module _ {E C : Type 0} (st : State) (x : Lent E C) where
  taken_up : refusal_of st x ≡ None → search_call st x ≡ search x.feed x.cap st x.allowance
  unfolding refusal_of search_call cases
  taken_up h = rw (cleared (x.asked st) (question9_refuses st x) h).0

  pub progress_any : ProgressAny st x
  unfolding refusal_of question9_refuses search
  progress_any h p =
      rw (taken_up h)
      (call_moves (gives x.feed) (valid_at x.feed) (next_read x.feed x.cap) (first_read x.feed x.cap) st x.allowance (cleared (x.asked st) (question9_refuses st x) h).1 p)

  pub used_exactly : UsedExactly st x
  unfolding search_call search cases
  used_exactly h = by (x.asked st) h
    where
      by : (o : Option ℕ) → (cases o (search x.feed x.cap st x.allowance) λ k. (refused k, st)).0 ≡ used → (cases o (search x.feed x.cap st x.allowance) λ k. (refused k, st)).1.reads ≡ st.reads + x.allowance
      by None h = call_used _ _ _ _ st x.allowance h
      by (Some k) h = absurd (let y : ◌≡◌ {A = ℕ} 0 1 = cc in omega arith)

  zero_read : x.asked st ≡ None → NoReadMade st x (search x.feed x.cap st 0)
  unfolding search call zero_call
  zero_read n = by (resume (first_read x.feed x.cap) st.phase) refl
    where
      by : (w : Next) → resume (first_read x.feed x.cap) st.phase ≡ w → NoReadMade st x (zero_call st w)
      by (ends s) e = inr (inl (n, s, e, refl))
      by (goes r) e = inr (inr (n, r, e, refl))

  pub zero_keeps : ZeroKeeps st x
  unfolding search_call cases
  zero_keeps z = by (x.asked st) refl
    where
      by : (o : Option ℕ) → x.asked st ≡ o → NoReadMade st x (cases o (search x.feed x.cap st x.allowance) λ k. (refused k, st))
      by None n = rw z (zero_read n)
      by (Some k) n = inl (k, n, refl)

  pub ends_alike : EndsAlike st x
  unfolding search
  ends_alike s e h = taken_up h ∙ call_ends _ _ _ _ st x.allowance s e

-- A call that questions 1 to 8 let through is refused with no other number than 9.
pub search_refused : {E C : Type 0} (F : Feed E C) (cap : Cap) (st : State) (a i : ℕ) → (search F cap st a).0 ≡ refused i → 9 ≡ i
unfolding search
search_refused F cap st a i h = call_refused (gives F) (valid_at F) (next_read F cap) (first_read F cap) st a i h
