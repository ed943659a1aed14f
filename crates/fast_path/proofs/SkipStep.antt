-- The steps over the reads of a combination: along one key's chain, and over keys with empty home slots. Assumes nothing.
use mathlib.Core.Path.{◌≡◌, refl, sym, ap, ◌∙◌}
use Prim.Native.Nat.{ℕ, zero, suc, ◌+◌, ◌-◌, ◌*◌, ◌%◌, ◌≤◌, ◌<◌}
use native.Mathlib.Omega.{arith}
use native.Mathlib.Nat.{mod-eq_of_lt}
use native.Mathlib.Numerals.{add-one}
use mathlib.Core.Bool.{false}
use lib.ListN.{get_or}
use Rattle.pattern.specs.Key.{mark_of}
use Rattle.pattern_catalog.specs.Blocks.{filled}
use Rattle.search_feed.specs.declared.lent.Table.{Table}
use Rattle.search_feed.proofs.TableRead.{home_below}
use Rattle.fast_path.specs.SlotPeek.{peek_of}
use Rattle.fast_path.specs.SkipReads.{along_key, skipped_reads}
use Rattle.fast_path.specs.SkipStep.{home_at, EmptyHomes, skipped_from, LeadsTo}
use Rattle.fast_path.specs.declared.probe_chain.SlotPeek.TheVariants.{Empty}
use Rattle.fast_path.specs.declared.probe_chain.ChainResult.{ChainResult}
use Rattle.fast_path.specs.declared.probe_chain.ChainResult.TheVariants.{Over, Stops}
use Rattle.fast_path.specs.declared.skip_reads.Reads.{Reads}
use Rattle.fast_path.proofs.ProbeChain.{along_empty, along_used, over_left}

module _ (r : Reads) where
  abbrev T : Table
  T = r.known.table

  -- ---- Along the chain of key k from probe c on, with the allowance a: to probe q, with l left.
  module _ (k c a q l : ℕ) where
    abbrev along_k : ChainResult
    along_k = along_key T.words.now T.packed.now T.stars.now T.slots r.hashes.now k a c

    pub key_stops : Stops q l ≡ along_k → record { key = k; probe = q; left = l } ≡ skipped_from r k c a
    unfolding skipped_reads
    key_stops e = by (r.keys - (k + 1))
      where
        by : (more : ℕ) → record { key = k; probe = q; left = l } ≡ skipped_reads T.words.now T.packed.now T.stars.now T.slots r.hashes.now more k c a
        by zero = sym (rw (← e))
        by (suc more) = sym (rw (← e))

    module _ (e : Over q l ≡ along_k) where
      pub key_over_left : l < a
      key_over_left = over_left T.words.now T.packed.now T.stars.now T.slots _ _ a c q l e

      pub key_last : r.keys ≤ k + 1 → record { key = k; probe = q; left = l + 1 } ≡ skipped_from r k c a
      unfolding skipped_reads
      key_last h = let z : r.keys - (k + 1) ≡ 0 = omega arith in sym (rw (z, ← e, add-one))

      key_next : k + 1 < r.keys → skipped_from r (k + 1) 0 l ≡ skipped_from r k c a
      unfolding skipped_reads
      key_next h =
          let z : r.keys - (k + 1) ≡ suc (r.keys - (k + 1 + 1)) = omega arith in
          let y : k + 1 ≡ suc k = omega arith in
          sym (rw (z, ← e) (ap (λ n. skipped_reads T.words.now T.packed.now T.stars.now T.slots r.hashes.now (r.keys - (k + 1 + 1)) n 0 l) (sym y)))

      pub key_over : k + 1 < r.keys → LeadsTo r k c a (k + 1) l
      key_over h = let f = key_over_left in record { later = omega arith; exists = h; fewer = omega arith; same = key_next h }

  used : (k : ℕ) → record { key = k; probe = 0; left = 0 } ≡ skipped_from r k 0 0
  used k = key_stops k 0 0 0 0 (along_used T.words.now T.packed.now T.stars.now T.slots (home_at r k) (mark_of (get_or r.hashes.now k 0)) 0 0 refl)

  -- ---- Keys with empty home slots.
  module _ (some : 0 < T.slots) where
    empty_peek : (k : ℕ) → filled T.words.now (home_at r k) ≡ false → peek_of T.words.now T.packed.now T.stars.now (mark_of (get_or r.hashes.now k 0)) ((home_at r k + 0 * 0) % T.slots) ≡ Empty
    unfolding peek_of
    empty_peek k f =
        let s : (home_at r k + 0 * 0) % T.slots ≡ home_at r k = ap (λ (x : ℕ). x % T.slots) (let z : home_at r k + 0 * 0 ≡ home_at r k = omega arith in z) ∙ mod-eq_of_lt (home_below (get_or r.hashes.now k 0) T.slots some) in
        rw (s, f)

    -- The chain of a key with an empty home slot is one read.
    one_read : (k a : ℕ) → filled T.words.now (home_at r k) ≡ false → Over 0 a ≡ along_k k 0 (suc a) 0 a
    one_read k a f =
        let z : suc a - 1 ≡ a = omega arith in
        rw z at (along_empty T.words.now T.packed.now T.stars.now T.slots (home_at r k) (mark_of (get_or r.hashes.now k 0)) (suc a) 0 (omega arith) ((home_at r k + 0 * 0) % T.slots) refl _ refl (empty_peek k f))

    -- The reads skipped from key k on are those skipped from n keys further on, where the keys between have empty home slots and take one read each.
    skip : (n k t a b : ℕ) → t ≡ k + n → b ≡ a + n → EmptyHomes r k t → t < r.keys → skipped_from r t 0 a ≡ skipped_from r k 0 b
    skip zero k t a b te be E h = let p : t ≡ k = omega arith in let q : a ≡ b = omega arith in rw (p, q)
    skip (suc n) k t a b te be E h =
        skip n (k + 1) t a (a + n) (omega arith) refl (λ q l m. E q (omega arith) m) h
        ∙ key_next k 0 (suc (a + n)) 0 (a + n) (one_read k (a + n) (E k (omega arith) (omega arith))) (omega arith)
        ∙ ap (skipped_from r k 0) (let z : suc (a + n) ≡ b = omega arith in z)

    -- The keys from lo to before hi have empty home slots: the allowance ends among them, or they are passed.
    module _ (lo hi a : ℕ) (E : EmptyHomes r lo hi) (h : hi < r.keys) where
      pub short : a < hi - lo → record { key = lo + a; probe = 0; left = 0 } ≡ skipped_from r lo 0 a
      short m = used (lo + a) ∙ skip a lo (lo + a) 0 a refl (omega arith) (λ q l n. E q l (omega arith)) (omega arith)

      pub past : (b : ℕ) → hi - lo + b ≡ a → lo ≤ hi → skipped_from r hi 0 b ≡ skipped_from r lo 0 a
      past b e l = skip (hi - lo) lo hi b a (omega arith) (omega arith) E h

    -- Where the last key's home slot is empty, skipping ends at that key.
    pub skip_last : (k a : ℕ) → filled T.words.now (home_at r k) ≡ false → k + 1 ≡ r.keys → record { key = k; probe = 0; left = a } ≡ skipped_from r k 0 a
    skip_last k zero f h = used k
    skip_last k (suc a) f h = ap (λ (n : ℕ). record { key = k; probe = 0; left = n }) (sym (add-one a)) ∙ key_last k 0 (suc a) 0 a (one_read k a f) (omega arith)

    -- The next key found is reached from key k and probe c, which isn't 0 only if the keys looked at are k alone.
    pub reach :
        (k c a at left key b : ℕ) → k ≤ at → at ≤ key → key < r.keys → (0 < c → key ≡ k) → (at ≡ k → left ≡ a) → ((0 < c → k < at) → skipped_from r at 0 left ≡ skipped_from r k c a)
        → EmptyHomes r at key → key - at + b ≡ left → skipped_from r key c b ≡ skipped_from r k c a
    reach k zero a at left key b l m h alone first same E e = past at key left E h b e m ∙ same (λ z. absurd (omega arith))
    reach k (suc c) a at left key b l m h alone first same E e =
        let x : key ≡ k = alone (omega arith) in
        let y : b ≡ a = omega (arith, first (omega arith)) in
        rw (x, y)
