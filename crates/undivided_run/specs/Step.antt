-- The search call in the order in which the code makes it: the next read is worked out from the present one. The function that gives the read after a
-- read is called the successor; the laws prove that it gives the reads of the undivided run. Assumes nothing.
use Rattle.std.specs.Prelude.{ℕ, zero, suc, ◌-◌, ◌≡◌, List, [], ◌∷◌, Bool, true, false, cond, ◌&&◌, ◌||◌, ltb}
use Rattle.std.specs.Prelude.{Option, None, Some}
use Rattle.combinations.specs.declared.Combination.{Combination}
use Rattle.combinations.specs.Successor.{first_combination, next_combination}
use Rattle.undivided_run.specs.Undivided.{Status, TooFew, NoMatch, Timeout, Read, Feed, Cap, reached, is_zero, cases, starts, slot_of, filled, gives}
use Rattle.undivided_run.specs.Calls.{Answer, candidate, used, over, refused}
use Rattle.undivided_run.specs.Moves.{first_of_key, probed, to_combination}
pub use Rattle.undivided_run.specs.declared.state.Next.{Next}
pub use Rattle.undivided_run.specs.declared.state.Next.TheVariants.{Goes as goes, Ends as ends}
pub use Rattle.undivided_run.specs.declared.state.Phase.{Phase as Stage}
pub use Rattle.undivided_run.specs.declared.state.Phase.TheVariants.{Fresh as new, At as at, Ended as done}
pub use Rattle.undivided_run.specs.declared.state.State.{State}

-- The fresh state, which counts 0 patterns and 0 reads.
unfoldable pub start : State
start = record { phase = new; patterns = 0; reads = 0 }

-- The phase of a state with this next read or end before it.
unfoldable pub phase_of : Next → Stage
phase_of (goes r) = at r
phase_of (ends s) = done s

-- The final status of a phase: that of an ended one, and none otherwise.
unfoldable pub final : Stage → Option Status
final new = None
final (at r) = None
final (done s) = Some s

-- The combinations tried once the read r is made, where n were tried before it.
unfoldable pub count_tried : Read → ℕ → ℕ
count_tried r n = cond (starts r) (suc n) n

-- Beginning with w, and with n combinations counted, the successor `next` gives exactly these reads and then ends with the status s.
abbrev pub Traverses : (Read → ℕ → Next) → Next → ℕ → List Read → Status → Type 0
Traverses next w n [] s = w ≡ ends s
Traverses next w n (r ∷ rs) s = (w ≡ goes r) × Traverses next (next r (count_tried r n)) (count_tried r n) rs s

-- What a state of this phase goes on with: `first`, the first read of the run or its end, for a fresh one, else its next read or its status.
unfoldable pub resume : Next → Stage → Next
resume first new = first
resume first (at r) = goes r
resume first (done s) = ends s

-- A call with allowance 0 that would go on with this: "When no read is left the answer is ended, even with allowance 0; otherwise allowance 0
-- changes nothing."
unfoldable pub zero_call : {C : Type 0} → State → Next → Answer C × State
zero_call st (ends s) = (over s, record { phase = done s; patterns = st.patterns; reads = st.reads })
zero_call st (goes r) = (used, st)

-- A call over any successor: `next` gives the read after a read, from that read and the combinations tried by then. `valid` is question 9 at a
-- read.
module _ {C : Type 0} (gives : Read → Option C) (valid : Read → Bool) (next : Read → ℕ → Next) where
  -- The rest of a call, from the reads still allowed, what comes next, and the n combinations and m reads counted so far.
  -- `st` is the state received, which is handed back where question 9 refuses the call.
  unfoldable pub go : State → ℕ → Next → ℕ → ℕ → Answer C × State
  go st zero (ends s) n m = (over s, record { phase = done s; patterns = n; reads = m })
  go st (suc a) (ends s) n m = (over s, record { phase = done s; patterns = n; reads = m })
  go st zero (goes r) n m = (used, record { phase = at r; patterns = n; reads = m })
  go st (suc a) (goes r) n m =
      let k = count_tried r n in
      cond (valid r)
      (cases (gives r)
      (go st a (next r k) k (suc m))
      λ x. (candidate x, record { phase = phase_of (next r k); patterns = k; reads = suc m }))
      (refused 9, st)

  -- Whether question 9 refuses a call with this many reads still allowed: whether one of the reads that it makes is of a filled slot with an
  -- invalid entry.
  unfoldable pub nine : ℕ → Next → ℕ → Bool
  nine zero w n = false
  nine (suc a) (ends s) n = false
  nine (suc a) (goes r) n =
      cond (valid r) (cases (gives r) (nine a (next r (count_tried r n)) (count_tried r n)) λ x. false) true

  -- A call with this state and allowance; `first` is the first read of the run, or its end.
  unfoldable pub call : Next → State → ℕ → Answer C × State
  call first st zero = zero_call st (resume first st.phase)
  call first st (suc a) = go st (suc a) (resume first st.phase) st.patterns st.reads

-- Question 9, which is asked at every filled slot that is read.
unfoldable pub valid_at : {E C : Type 0} → Feed E C → Read → Bool
valid_at F r = cases (F.entry (slot_of F r)) true F.valid

-- The successor of the search itself: which read comes after a read, from what the run is fed and its cap.
module _ {E C : Type 0} (F : Feed E C) (cap : Cap) where
  -- The first read of the `left` passes from pass i on, or the status that ends the run; `status` is that of the pass before.
  unfoldable pub to_pass : ℕ → ℕ → Status → ℕ → Next
  to_pass zero i status tried = ends status
  to_pass (suc left) i status tried =
      cond (reached cap tried) (ends Timeout)
      (cond (ltb (F.kept i) 4)
      (to_pass left (suc i) TooFew tried)
      (cond (is_zero F.slots || is_zero F.patterns)
      (to_pass left (suc i) NoMatch tried)
      (cases (first_combination (F.kept i)) (to_pass left (suc i) NoMatch tried) λ q. to_combination cap tried i q)))

  -- What comes after the last read of combination q of pass i.
  unfoldable pub after_combination : ℕ → Combination → ℕ → Next
  after_combination i q tried =
      cases (next_combination (F.kept i) q)
      (to_pass (F.passes - suc i) (suc i) NoMatch tried)
      λ p. to_combination cap tried i p

  -- What comes after the last read of key k of combination q of pass i.
  unfoldable pub after_key : ℕ → Combination → ℕ → ℕ → Next
  after_key i q k tried =
      cond (ltb (suc k) (F.keys i q)) (goes (first_of_key i q (suc k))) (after_combination i q tried)

  -- What comes after the read r, where `tried` combinations are tried with it.
  unfoldable pub next_read : Read → ℕ → Next
  next_read r tried =
      cond (filled F r && ltb (suc r.probe) F.slots)
      (goes (probed r))
      (after_key r.pass r.four r.key tried)

  -- The first read of the run, or the status of a run without a read.
  unfoldable pub first_read : Next
  first_read = to_pass F.passes 0 NoMatch 0

  -- A call that questions 1 to 8 let through.
  unfoldable pub search : State → ℕ → Answer C × State
  search = call (gives F) (valid_at F) next_read first_read

-- What a call is lent: what the run is fed, the cap, the allowance, and questions 1 to 8 over what is lent.
pub record Lent (E C : Type 0) : Type 0 where
  pub feed : Feed E C
  pub cap : Cap
  pub allowance : ℕ
  -- The number of the first no of questions 1 to 8 for a state, if there is one.
  pub asked : State → Option ℕ

-- The search call. "A no returns only its number and the state received, and leaves lent slices untouched."
unfoldable pub search_call : {E C : Type 0} → State → Lent E C → Answer C × State
search_call st x = cases (x.asked st) (search x.feed x.cap st x.allowance) λ k. (refused k, st)

-- Whether question 9 refuses a call that questions 1 to 8 let through.
unfoldable pub question9_refuses : {E C : Type 0} → State → Lent E C → Bool
question9_refuses st x =
    nine (gives x.feed) (valid_at x.feed) (next_read x.feed x.cap)
    x.allowance
    (resume (first_read x.feed x.cap) st.phase)
    st.patterns

-- The number under which the questions refuse a call: the first no of 1 to 8, or 9, asked at every filled slot that the call reads.
unfoldable pub refusal_of : {E C : Type 0} → State → Lent E C → Option ℕ
refusal_of st x = cases (x.asked st) (cond (question9_refuses st x) (Some 9) None) λ k. Some k
