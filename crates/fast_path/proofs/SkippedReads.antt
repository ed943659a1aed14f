-- The reads that `skip_reads` skips are valid and give no candidate, and they lead to a read of the same combination. Assumes nothing.
use mathlib.Core.Path.{◌≡◌, refl, sym, subst, ◌∙◌}
use Prim.Native.Nat.{ℕ, zero, suc, ◌+◌, ◌-◌, ◌≤◌, ◌<◌}
use native.Mathlib.Omega.{arith}
use mathlib.Core.Bool.{Bool, true, false, not, cond, ◌&&◌}
use mathlib.Core.List.{List}
use Rattle.std.specs.Prelude.{Option, None, Some}
use lib.Dec.{ltb, eqb}
use lib.ListN.{get_or}
use borrow.Author.Tests.{ltb-true, ltb-false}
use Rattle.pattern.specs.Key.{home_of, mark_of}
use Rattle.pattern_entry.specs.Entry.{bytes_at, mark_in}
use Rattle.pattern_entry.specs.Validity.{entry_valid}
use Rattle.pattern_catalog.specs.Blocks.{filled as slotFilled, place}
use Rattle.candidates.specs.EntryTests.{test_of}
use Rattle.undivided_run.specs.declared.state.Position.{Position}
use Rattle.undivided_run.specs.Undivided.{Cap}
use Rattle.undivided_run.specs.declared.state.Next.{Next}
use Rattle.undivided_run.specs.declared.state.Next.TheVariants.{Goes as goes}
use Rattle.undivided_run.specs.Undivided.{Feed, is_zero, is_some, cases, starts, slot_of, filled, gives}
use Rattle.undivided_run.specs.Step.{count_tried, valid_at, next_read, after_key}
use Rattle.undivided_run.proofs.Steps.{key_more, probe_more, probe_last, probe_empty}
use Rattle.candidates.specs.declared.entry_tests.Candidate.{Candidate}
use Rattle.search_feed.specs.Data.{Data}
use Rattle.search_feed.specs.Feed.{feed, slot_at, entry_at, tested_at, if_hit, hash_of_read}
use Rattle.fast_path.specs.SlotPeek.{is_valid_mismatch, peek_of}
use Rattle.fast_path.specs.ProbeChain.{along_chain, along_chain_by, peek_at}
use Rattle.fast_path.specs.SkipReads.{after_chain, along_key, skipped_reads}
use Rattle.undivided_run.specs.Moves.{at_key}
use Rattle.fast_path.specs.Skippable.{Skippable, Leads}
use Rattle.fast_path.specs.declared.probe_chain.SlotPeek.{SlotPeek}
use Rattle.fast_path.specs.declared.probe_chain.SlotPeek.TheVariants.{Empty, Passed, Stop}
use Rattle.fast_path.specs.declared.probe_chain.ChainResult.{ChainResult}
use Rattle.fast_path.specs.declared.probe_chain.ChainResult.TheVariants.{Over, Stops}
use Rattle.fast_path.specs.declared.skip_reads.SkipResult.{SkipResult}
use Rattle.fast_path.proofs.Skippable.{skippable_cat, not_counted, leads_nowhere, leads_then, skippable_one}

-- ---- One read, by what is seen at its slot.
module _ (D : Data) (r : Position) where
  abbrev peek_here : SlotPeek
  peek_here = peek_of D.words D.packed D.stars (mark_of (hash_of_read D.frame r)) (slot_at D r)

  -- A valid read that gives no candidate, of a filled slot (true) or of an empty one (false).
  abbrev pub SkippableAt : Bool → Type 0
  SkippableAt b = (filled (feed D) r ≡ b) × (valid_at (feed D) r ≡ true) × (gives (feed D) r ≡ None)

  pub empty_skippable : peek_here ≡ Empty → SkippableAt false
  unfolding peek_of filled valid_at gives slot_of feed slot_at entry_at cases is_some
  empty_skippable h = by (place D.words (slot_at D r)) (slotFilled D.words (slot_at D r)) (is_valid_mismatch D.stars (mark_of (hash_of_read D.frame r)) e) h
    where
      e : List ℕ
      e = bytes_at D.packed (place D.words (slot_at D r))

      by : (x : ℕ) (b c : Bool) → cond b (cond c (Passed x) Stop) Empty ≡ Empty → let o : Option (List ℕ) = cond b (Some e) None in (is_some o ≡ false) × (cases o true (entry_valid D.stars) ≡ true) × (cases o None (λ e. if_hit D r e (tested_at D r e)) ≡ None)
      by x false c h = (refl, refl, refl)
      by x true true h = absurd (let z : ◌≡◌ {A = ℕ} 0 1 = cc (h) in omega arith)
      by x true false h = absurd (let z : ◌≡◌ {A = ℕ} 0 1 = cc (h) in omega arith)

  -- An entry with another mark is passed over.
  other_mark : (e : List ℕ) → eqb (mark_in e) (mark_of (hash_of_read D.frame r)) ≡ false → tested_at D r e ≡ None
  unfolding tested_at test_of
  other_mark e o = rw o

  pub passed_skippable : (y : ℕ) → peek_here ≡ Passed y → SkippableAt true
  unfolding peek_of is_valid_mismatch filled valid_at gives slot_of feed slot_at entry_at cases is_some
  passed_skippable y h = by (place D.words (slot_at D r)) (slotFilled D.words (slot_at D r)) h
    where
      e : List ℕ
      e = bytes_at D.packed (place D.words (slot_at D r))

      mark : ℕ
      mark = mark_of (hash_of_read D.frame r)

      two : (x : ℕ) (s m : Bool) → entry_valid D.stars e ≡ s → eqb (mark_in e) mark ≡ m → cond (s && not m) (Passed x) Stop ≡ Passed y → (◌≡◌ {A = Bool} true true) × (entry_valid D.stars e ≡ true) × (if_hit D r e (tested_at D r e) ≡ None)
      two x true false se me h = (refl, se, rw (other_mark e me))
      two x true true se me h = absurd (let z : ◌≡◌ {A = ℕ} 0 1 = cc (h) in omega arith)
      two x false m se me h = absurd (let z : ◌≡◌ {A = ℕ} 0 1 = cc (h) in omega arith)

      by : (x : ℕ) (b : Bool) → cond b (cond (entry_valid D.stars e && not (eqb (mark_in e) mark)) (Passed x) Stop) Empty ≡ Passed y → let o : Option (List ℕ) = cond b (Some e) None in (is_some o ≡ true) × (cases o true (entry_valid D.stars) ≡ true) × (cases o None (λ e. if_hit D r e (tested_at D r e)) ≡ None)
      by x false h = absurd (let z : ◌≡◌ {A = ℕ} 0 1 = cc (h) in omega arith)
      by x true h = two x (entry_valid D.stars e) (eqb (mark_in e) mark) refl refl h

-- ---- The reads along the chain of key k of a combination.
module _ (D : Data) (p : Position) (k : ℕ) where
  abbrev at : ℕ → Position
  at c = at_key p k c

  abbrev F : Feed (List ℕ) Candidate
  F = feed D

  -- Where a chain isn't over, its reads lead to the read at a probe of it. Where it is over, they lead to its last read, and with that one past
  -- the chain.
  abbrev pub ChainLeads : ℕ → ℕ → ChainResult → Type 0
  ChainLeads a c (Stops q l) = Leads F (at c) a l (at q)
  ChainLeads a c (Over q l) =
      Leads F (at c) a (suc l) (at q)
      × (l < a)
      × ((cap : Cap) (n : ℕ) → Skippable F cap (a - l) (goes (at c)) n (after_key F cap p.pass p.four k (count_tried (at c) n)) (count_tried (at c) n))

  not_first : (c : ℕ) → starts (at (suc c)) ≡ false
  unfolding starts is_zero
  not_first c = refl

  -- The last read of a chain.
  last : (a c : ℕ) → (b : Bool) → SkippableAt D (at c) b → ((cap : Cap) (n : ℕ) → next_read F cap (at c) n ≡ after_key F cap p.pass p.four k n) → ChainLeads (suc a) c (Over c a)
  last a c b q e =
      let z : suc a - a ≡ 1 = omega arith in
      (leads_nowhere F (at c) (suc a), omega arith, λ cap n. rw z (skippable_one F cap (at c) n _ q.1 q.2 (e cap (count_tried (at c) n))))

  -- A read that isn't the chain's last, followed by the chain from the next probe on.
  module _ (a c : ℕ) (q : SkippableAt D (at c) true) (h : suc c < D.slots) where
    one : (cap : Cap) (n : ℕ) → Skippable F cap (suc a - a) (goes (at c)) n (goes (at (suc c))) (count_tried (at c) n)
    unfolding feed
    one cap n =
        let z : suc a - a ≡ 1 = omega arith in
        rw z (skippable_one F cap (at c) n _ q.1 q.2 (probe_more F cap (count_tried (at c) n) (at c) true (sym q.0) refl (omega arith)))

    one_then : (s : ChainResult) → ChainLeads a (suc c) s → ChainLeads (suc a) c s
    one_then (Stops q l) w = leads_then F (at c) (at (suc c)) (at q) a (not_first c) (suc a) l (omega arith) one w
    one_then (Over q l) w = (
      leads_then F (at c) (at (suc c)) (at q) a (not_first c) (suc a) (suc l) (omega arith) one w.0,
      omega (arith, w.1),
      λ cap n.
          skippable_cat F cap (suc a - a) (a - l) (suc a - l) (goes (at c)) (goes (at (suc c))) _ n (count_tried (at c) n) _ (omega (arith, w.1)) (one cap n)
          (subst (λ m. Skippable F cap (a - l) (goes (at (suc c))) (count_tried (at c) n) (after_key F cap p.pass p.four k m) m) (not_counted (at (suc c)) (count_tried (at c) n) (not_first c)) (w.2 cap (count_tried (at c) n))),
    )

  at_end : (cap : Cap) (n c : ℕ) → SkippableAt D (at c) true → D.slots ≤ suc c → next_read F cap (at c) n ≡ after_key F cap p.pass p.four k n
  unfolding feed
  at_end cap n c q h = probe_last F cap n (at c) true (sym q.0) refl (omega arith)

  module _ (hash : ℕ) (he : hash ≡ hash_of_read D.frame (at 0)) where
    abbrev along : ℕ → ℕ → ChainResult
    along = along_chain D.words D.packed D.stars D.slots (home_of hash D.slots) (mark_of hash)

    abbrev peek_at_probe : ℕ → SlotPeek
    peek_at_probe c = peek_at D.words D.packed D.stars D.slots (home_of hash D.slots) (mark_of hash) c

    peek_at_probe_is : (c : ℕ) → peek_at_probe c ≡ peek_here D (at c)
    unfolding slot_at
    peek_at_probe_is c = rw he

    pub along_skippable : (a c : ℕ) → c < D.slots → ChainLeads a c (along a c)
    unfolding along_chain
    along_skippable zero c h = leads_nowhere F (at c) 0
    along_skippable (suc a) c h = by (peek_at_probe c) refl (along_skippable a (suc c))
      where
        two : SkippableAt D (at c) true → (suc c < D.slots → ChainLeads a (suc c) (along a (suc c))) → (b : Bool) → ltb (suc c) D.slots ≡ b → ChainLeads (suc a) c (cond b (along a (suc c)) (Over c a))
        two q ih true e = let l = ltb-true (suc c) D.slots e in one_then a c q l (along a (suc c)) (ih l)
        two q ih false e = last a c true q (λ cap n. at_end cap n c q (ltb-false (suc c) D.slots e))

        by : (g : SlotPeek) → peek_at_probe c ≡ g → (suc c < D.slots → ChainLeads a (suc c) (along a (suc c))) → ChainLeads (suc a) c (along_chain_by D.words D.packed D.stars D.slots (home_of hash D.slots) (mark_of hash) g a c (along a (suc c)))
        by Empty e ih = let q = empty_skippable D (at c) (sym (peek_at_probe_is c) ∙ e) in last a c false q (λ cap n. probe_empty F cap n (at c) false (sym q.0) refl)
        by Stop e ih = leads_nowhere F (at c) (suc a)
        by (Passed n) e ih = two (passed_skippable D (at c) n (sym (peek_at_probe_is c) ∙ e)) ih (ltb (suc c) D.slots) refl

-- ---- The reads of a combination, key after key.
module _ (D : Data) (p : Position) (hashes : List ℕ) (keys : ℕ) (ke : keys ≡ (feed D).keys p.pass p.four) (he : (k : ℕ) → k < keys → get_or hashes k 0 ≡ hash_of_read D.frame (at_key p k 0)) where
  abbrev found : ℕ → ℕ → ℕ → ChainResult
  found k a c = along_key D.words D.packed D.stars D.slots hashes k a c

  abbrev skipped : ℕ → ℕ → ℕ → ℕ → SkipResult
  skipped = skipped_reads D.words D.packed D.stars D.slots hashes

  abbrev SkipsReads : ℕ → ℕ → ℕ → SkipResult → Type 0
  SkipsReads k c a t = Leads (feed D) (at_key p k c) a t.left (at_key p t.key t.probe)

  -- After a key that isn't the last comes the first read of the next key.
  key_on : (k c n : ℕ) (cap : Cap) → suc k < keys → after_key (feed D) cap p.pass p.four k n ≡ goes (at_key p (suc k) 0)
  key_on k c n cap h = key_more (feed D) cap n (at_key p k c) keys ke (omega arith)

  not_begun : (k : ℕ) → starts (at_key p (suc k) 0) ≡ false
  unfolding starts is_zero
  not_begun k = refl

  pub skipped_reads_leads : (more k c a : ℕ) → k + suc more ≡ keys → c < D.slots → SkipsReads k c a (skipped more k c a)
  unfolding skipped_reads
  skipped_reads_leads zero k c a h l = by (found k a c) (along_skippable D p k (get_or hashes k 0) (he k (omega arith)) a c l)
    where
      by : (s : ChainResult) → ChainLeads D p k a c s → SkipsReads k c a (after_chain k (λ probe left. record { key = k; probe = probe; left = suc left }) s)
      by (Over q b) w = w.0
      by (Stops q b) w = w
  skipped_reads_leads (suc more) k c a h l = by (found k a c) (along_skippable D p k (get_or hashes k 0) (he k (omega arith)) a c l) (λ b. skipped_reads_leads more (suc k) 0 b (omega arith) (omega arith))
    where
      by : (s : ChainResult) → ChainLeads D p k a c s → ((b : ℕ) → SkipsReads (suc k) 0 b (skipped more (suc k) 0 b)) → SkipsReads k c a (after_chain k (λ probe left. skipped more (suc k) 0 left) s)
      by (Over q b) w ih =
          leads_then (feed D) (at_key p k c) (at_key p (suc k) 0) _ b (not_begun k) a _ w.1
          (λ cap n. subst (λ (v : Next). Skippable (feed D) cap (a - b) (goes (at_key p k c)) n v (count_tried (at_key p k c) n)) (key_on k c (count_tried (at_key p k c) n) cap (omega arith)) (w.2 cap n)) (ih b)
      by (Stops q b) w ih = w
