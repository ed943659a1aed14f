-- A call, read by read, over what any search is fed: what each read answers or leads on to, and that the call's invariant stays true. Assumes
-- nothing.
use mathlib.Core.Path.{◌≡◌, refl, sym, ◌∙◌, ap}
use Prim.Native.Nat.{ℕ, zero, suc, ◌+◌, ◌-◌, ◌≤◌, ◌<◌}
use native.Mathlib.Omega.{arith}
use native.Mathlib.Numerals.{add-one}
use mathlib.Core.List.{List, [], ◌∷◌}
use mathlib.Core.Bool.{Bool, true, false, cond}
use Rattle.std.specs.Prelude.{Option, None, Some}
use lib.ListN.{length}
use Rattle.undivided_run.specs.declared.state.Status.{Status}
use Rattle.undivided_run.specs.declared.state.Status.TheVariants.{NoMatch}
use Rattle.undivided_run.specs.Undivided.{Cap}
use Rattle.undivided_run.specs.declared.state.Position.{Position as Read}
use Rattle.undivided_run.specs.declared.state.Next.{Next}
use Rattle.undivided_run.specs.declared.state.Next.TheVariants.{Goes as goes, Ends as ends}
use Rattle.undivided_run.specs.declared.state.Phase.{Phase as Stage}
use Rattle.undivided_run.specs.declared.state.Phase.TheVariants.{Fresh as new, At as at, Ended as done}
use Rattle.undivided_run.specs.declared.state.State.{State}
use Rattle.undivided_run.specs.Undivided.{Feed, cases, gives, undivided, starts}
use Rattle.undivided_run.specs.Calls.{Answer, candidate, used, over, refused}
use Rattle.undivided_run.specs.Step.{Traverses, phase_of, count_tried, resume, zero_call, go, call, search, valid_at, next_read, first_read}
use Rattle.undivided_run.specs.PositionExists.{ReadExists, Keyed, Within, Question8Holds}
use Rattle.undivided_run.specs.CallInvariant.{NextExists, Room, CallInvariant, continuing, after_read}
use Rattle.undivided_run.specs.declared.state.Cursor.{Cursor}
use Rattle.undivided_run.proofs.Traversal.{traverses_undivided}
use Rattle.undivided_run.proofs.Bounds.{reads_bound}
use Rattle.undivided_run.proofs.PositionExists.{reads_from, traverses_from, reads_from_bound, to_pass_here, next_here}

-- The cursor that a call with this state begins with.
abbrev pub begun : {E C : Type 0} → Feed E C → Cap → State → Cursor
begun F cap st = record { next = resume (first_read F cap) st.phase; patterns = st.patterns; reads = st.reads }

module _ {E C : Type 0} (F : Feed E C) (cap : Cap) (keyed : Keyed F) where
  -- ---- After a read the invariant holds again.
  count_tried_most : (r : Read) (n : ℕ) → count_tried r n ≤ suc n
  unfolding count_tried
  count_tried_most r n = two (starts r)
    where
      two : (b : Bool) → cond b (suc n) n ≤ suc n
      two true = omega arith
      two false = omega arith

  room_after : (w : Cursor) (r : Read) (s : Status) (rs : List Read) → Traverses (next_read F cap) (goes r) w.patterns rs s → w.reads + length rs ≤ 9223372036854775808 → w.patterns + length rs ≤ 9223372036854775807 → Room F cap (next_read F cap r (count_tried r w.patterns)) (count_tried r w.patterns) (w.reads + 1)
  room_after w r s [] h p q = absurd (let z : ◌≡◌ {A = ℕ} 0 1 = cc (h) in omega arith)
  room_after w r s (x ∷ rs) h p q =
      let z : x ≡ r = cc h.0 in
      record { reads = rs; status = s; traverses = rw z at h.1; counted = omega arith; tried = omega (arith, count_tried_most r w.patterns) }

  pub good_after : (w : Cursor) (r : Read) → w.next ≡ goes r → CallInvariant F cap w → CallInvariant F cap (after_read F cap w r)
  good_after w r e g =
      record {
        here = next_here F cap keyed r (count_tried r w.patterns) (rw e at g.here);
        room = room_after w r g.room.status g.room.reads (rw e at g.room.traverses) g.room.counted g.room.tried;
      }

  -- The counts have room for one more read and one more combination.
  pub good_room : (w : Cursor) (r : Read) → w.next ≡ goes r → CallInvariant F cap w → (w.reads < 9223372036854775808) × (w.patterns < 9223372036854775808)
  good_room w r e g = by g.room.reads (rw e at g.room.traverses) g.room.counted g.room.tried
    where
      by : (rs : List Read) → Traverses (next_read F cap) (goes r) w.patterns rs g.room.status → w.reads + length rs ≤ 9223372036854775808 → w.patterns + length rs ≤ 9223372036854775807 → (w.reads < 9223372036854775808) × (w.patterns < 9223372036854775808)
      by [] h p q = absurd (let z : ◌≡◌ {A = ℕ} 0 1 = cc (h) in omega arith)
      by (x ∷ rs) h p q = (omega arith, omega arith)

  -- ---- The invariant holds of the cursor that a state begins with, where question 8 lets that state through.
  begun_at : Within F → (g : Stage) (n m : ℕ) → Question8Holds F g n m → CallInvariant F cap (record { next = resume (first_read F cap) g; patterns = n; reads = m })
  unfolding resume first_read
  begun_at w new n m h =
      let bound = reads_bound F w cap in
      let n0 = h.0 in
      let m0 = h.1 in
      record {
        here = to_pass_here F cap keyed F.passes 0 NoMatch 0 (omega arith);
        room = record { reads = (undivided F cap).reads; status = (undivided F cap).status; traverses = rw n0 (traverses_undivided F cap keyed); counted = omega arith; tried = omega arith };
      }
  begun_at w (at r) n m h =
      let here = h.0 in
      let n0 = h.1 in
      let m0 = h.2 in
      let bound = reads_from_bound F cap keyed r here w n in
      record {
        here = here;
        room = record { reads = reads_from F cap keyed r here n; status = _; traverses = traverses_from F cap keyed r here n; counted = omega arith; tried = omega arith };
      }
  begun_at w (done s) n m h =
      let n0 = h.0 in
      let m0 = h.1 in
      record { here = tt; room = record { reads = []; status = s; traverses = refl; counted = omega arith; tried = omega arith } }

  pub begun_good : Within F → (st : State) → Question8Holds F st.phase st.patterns st.reads → CallInvariant F cap (begun F cap st)
  begun_good w st h = begun_at w st.phase st.patterns st.reads h

-- ---- What a call answers at one cursor, or which cursor it goes on with.
module _ {E C : Type 0} (F : Feed E C) (cap : Cap) (st : State) (a : ℕ) (w : Cursor) where
  abbrev rest : Answer C × State
  rest = continuing F cap st a w

  abbrev left : Stage → State
  left g = record { phase = g; patterns = w.patterns; reads = w.reads }

  pub iterate_ends : (s : Status) → w.next ≡ ends s → rest ≡ (over s, left (phase_of w.next))
  unfolding go phase_of
  iterate_ends s e = rw e (by a)
    where
      by : (a : ℕ) → go (gives F) (valid_at F) (next_read F cap) st a (ends s) w.patterns w.reads ≡ (over s, left (done s))
      by zero = refl
      by (suc a) = refl

  pub iterate_used : (r : Read) → w.next ≡ goes r → a ≡ 0 → rest ≡ (used, left (phase_of w.next))
  unfolding go phase_of
  iterate_used r e z = rw (e, z)

  module _ (r : Read) (e : w.next ≡ goes r) (p : 0 < a) where
    abbrev then : Cursor
    then = after_read F cap w r

    go_read : rest ≡ cond (valid_at F r) (cases (gives F r) (continuing F cap st (a - 1) then) λ x. (candidate x, record { phase = phase_of then.next; patterns = then.patterns; reads = then.reads })) (refused 9, st)
    unfolding go
    go_read = let z : a ≡ suc (a - 1) = omega arith in ap (λ n. go (gives F) (valid_at F) (next_read F cap) st n w.next w.patterns w.reads) z ∙ rw (e, add-one)

    pub iterate_refused : valid_at F r ≡ false → rest ≡ (refused 9, st)
    iterate_refused s = go_read ∙ rw s

    pub iterate_hit : (f : C) → valid_at F r ≡ true → gives F r ≡ Some f → rest ≡ (candidate f, record { phase = phase_of then.next; patterns = then.patterns; reads = then.reads })
    unfolding cases
    iterate_hit f s g = go_read ∙ rw (s, g)

    pub iterate_passed : valid_at F r ≡ true → gives F r ≡ None → continuing F cap st (a - 1) then ≡ rest
    unfolding cases
    iterate_passed s g = sym (go_read ∙ rw (s, g))

-- ---- The whole call, with allowance 0 and with a greater one.
module _ {E C : Type 0} (F : Feed E C) (cap : Cap) (st : State) where
  pub search_zero : search F cap st 0 ≡ zero_call st (begun F cap st).next
  unfolding search call
  search_zero = refl

  pub search_run : (a : ℕ) → 0 < a → search F cap st a ≡ continuing F cap st a (begun F cap st)
  unfolding search call
  search_run zero p = absurd (omega arith)
  search_run (suc a) p = refl

-- ---- The read that gave a candidate.
module _ {E C : Type 0} (F : Feed E C) (cap : Cap) (keyed : Keyed F) (x : C) where
  abbrev pub GivenAt : Type 0
  GivenAt = (r : Read) × ReadExists F r × (valid_at F r ≡ true) × (gives F r ≡ Some x)

  given_read : (r : Read) (st k : State) (t : Answer C × State) → ReadExists F r → (b : Bool) → valid_at F r ≡ b → (o : Option C) → gives F r ≡ o → (cond b (cases o t (λ y. (candidate y, k))) (refused 9, st)).0 ≡ candidate x → (t.0 ≡ candidate x → GivenAt) → GivenAt
  unfolding cases
  given_read r st k t h false be o oe e ih = absurd (let z : ◌≡◌ {A = ℕ} 0 1 = cc in omega arith)
  given_read r st k t h true be None oe e ih = ih e
  given_read r st k t h true be (Some y) oe e ih = let z : y ≡ x = cc in (r, h, be, oe ∙ ap Some z)

  go_given : (a : ℕ) (st : State) (w : Next) (n m : ℕ) → NextExists F w → (go (gives F) (valid_at F) (next_read F cap) st a w n m).0 ≡ candidate x → GivenAt
  unfolding go
  go_given zero st (ends s) n m h e = absurd (let z : ◌≡◌ {A = ℕ} 0 1 = cc in omega arith)
  go_given zero st (goes r) n m h e = absurd (let z : ◌≡◌ {A = ℕ} 0 1 = cc in omega arith)
  go_given (suc a) st (ends s) n m h e = absurd (let z : ◌≡◌ {A = ℕ} 0 1 = cc in omega arith)
  go_given (suc a) st (goes r) n m h e = given_read r st _ _ h (valid_at F r) refl (gives F r) refl e (go_given a st (next_read F cap r (count_tried r n)) (count_tried r n) (suc m) (next_here F cap keyed r (count_tried r n) h))

  -- Where question 8 lets a call through and the call answers with a candidate, a read at numbers that exist, of a valid entry, gave it.
  pub given_at : Within F → (st : State) → Question8Holds F st.phase st.patterns st.reads → (a : ℕ) → (search F cap st a).0 ≡ candidate x → GivenAt
  unfolding search call zero_call
  given_at w st q zero e = by (resume (first_read F cap) st.phase) e
    where
      by : (v : Next) → (zero_call {C = C} st v).0 ≡ candidate x → GivenAt
      by (ends s) e = absurd (let z : ◌≡◌ {A = ℕ} 0 1 = cc in omega arith)
      by (goes r) e = absurd (let z : ◌≡◌ {A = ℕ} 0 1 = cc in omega arith)
  given_at w st q (suc a) e = go_given (suc a) st (resume (first_read F cap) st.phase) st.patterns st.reads (begun_good F cap keyed w st q).here e
