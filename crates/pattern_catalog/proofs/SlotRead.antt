-- Laws of the slot read: what each path through the code answers, and what follows from the answer filled. Assumes nothing.
use Prim.Native.Nat.{ℕ, ◌+◌, ◌*◌, ◌/◌, ◌≤◌, ◌<◌}
use mathlib.Core.Path.{◌≡◌, refl}
use mathlib.Core.Bool.{Bool, true, false, cond}
use mathlib.Core.List.{List}
use native.Mathlib.Omega.{arith}
use borrow.Author.Tests.{lt-ltb, le-ltb, le-leb, lt-leb, ltb-true, ltb-false, leb-true, eqb-true}
use lib.Dec.{leb, ltb, eqb}
use lib.ListN.{length}
use Rattle.pattern_entry.specs.FirstNo.{ask}
use Rattle.pattern_catalog.specs.Blocks.{blocks_of, table_fits, filled, place}
use Rattle.pattern_entry.specs.Entry.{in_section}
use Rattle.pattern_catalog.specs.Answers.{filled_at, empty, refused}
use Rattle.pattern_catalog.specs.SlotPlace.{found_by}
use Rattle.pattern_catalog.specs.SlotRead.{slot_in, slot_read}
use Rattle.pattern_catalog.specs.Rank.{ranked_at}
use Rattle.std.specs.Prelude.{Option}
use Rattle.pattern_entry.proofs.Every.{both_l, both_r}

-- ---- question 6

module _ (slots : ℕ) (words : List ℕ) (fits : table_fits slots words ≡ true) where
  pub fits_few : slots ≤ 16777216
  unfolding table_fits
  fits_few = leb-true _ _ (both_l (leb slots 16777216) (eqb (length words) (blocks_of slots * 8)) fits)

  pub fits_long : length words ≡ blocks_of slots * 8
  unfolding table_fits
  fits_long = eqb-true _ _ (both_r (leb slots 16777216) (eqb (length words) (blocks_of slots * 8)) fits)

  -- The block of each slot is in the word slice, as `find_in` asks.
  pub fits_block : (s : ℕ) → s < slots → s / 448 * 8 + 8 ≤ length words
  fits_block s h = omega (arith, fits_long)

-- ---- the read of a slot that exists

module _ (words packed : List ℕ) (s : ℕ) where
  pub in_empty : filled words s ≡ false → empty ≡ slot_in words packed s
  unfolding slot_in
  in_empty f = simp f

  pub in_ranked : filled words s ≡ true → (r : Option ℕ) → ranked_at words s (length packed / 22) ≡ r → slot_in words packed s ≡ found_by r
  unfolding slot_in ranked_at in_section
  in_ranked f r e = by_test (ltb (place words s) (length packed / 22)) refl
    where
      by_test : (b : Bool) → ltb (place words s) (length packed / 22) ≡ b → slot_in words packed s ≡ found_by r
      by_test true l =
          let i = ltb-true (place words s) (length packed / 22) l in
          let k = le-leb (place words s * 22 + 22) (length packed) (omega arith) in
          rw (← e) (simp (f, l, k))
      by_test false l =
          let i = ltb-false (place words s) (length packed / 22) l in
          let k = lt-leb (place words s * 22 + 22) (length packed) (omega arith) in
          rw (← e) (simp (f, l, k))

  -- Where the answer is filled, the slot is filled, the place is the slot's, and its 22 bytes lie inside the section.
  pub in_place : (p : ℕ) → slot_in words packed s ≡ filled_at p → (filled words s ≡ true) × (p ≡ place words s) × (p * 22 + 22 ≤ length packed)
  unfolding slot_in in_section
  in_place p h = go (filled words s) (in_section packed (place words s)) refl refl h
    where
      go : (c d : Bool) → filled words s ≡ c → in_section packed (place words s) ≡ d
          → cond c (ask d (refused 9) (filled_at (place words s))) empty ≡ filled_at p
          → (filled words s ≡ true) × (p ≡ place words s) × (p * 22 + 22 ≤ length packed)
      go false d f k e = let z : ◌≡◌ {A = ℕ} 0 1 = cc in absurd (omega arith)
      go true false f k e = let z : ◌≡◌ {A = ℕ} 0 1 = cc in absurd (omega arith)
      go true true f k e =
          let q : p ≡ place words s = cc in
          let l = leb-true (place words s * 22 + 22) (length packed) k in
          (f, q, omega arith)

-- ---- the slot read

module _ (slots : ℕ) (words packed : List ℕ) (s : ℕ) where
  pub read_6 : table_fits slots words ≡ false → refused 6 ≡ slot_read slots words packed s
  unfolding slot_read
  read_6 t = simp t

  pub read_11 : table_fits slots words ≡ true → slots ≤ s → refused 11 ≡ slot_read slots words packed s
  unfolding slot_read
  read_11 t h = simp (t, le-ltb s slots h)

  -- Where questions 6 and 11 are answered yes, the slot read is the read of a slot that exists.
  pub read_in : table_fits slots words ≡ true → s < slots → slot_in words packed s ≡ slot_read slots words packed s
  unfolding slot_read
  read_in t h = simp (t, lt-ltb s slots h)

  pub read_place : (p : ℕ) → slot_read slots words packed s ≡ filled_at p → (filled words s ≡ true) × (p ≡ place words s) × (p * 22 + 22 ≤ length packed)
  unfolding slot_read
  read_place p h = go (table_fits slots words) (ltb s slots) h
    where
      go : (a b : Bool) → ask a (refused 6) (ask b (refused 11) (slot_in words packed s)) ≡ filled_at p
          → (filled words s ≡ true) × (p ≡ place words s) × (p * 22 + 22 ≤ length packed)
      go false b e = let z : ◌≡◌ {A = ℕ} 0 1 = cc in absurd (omega arith)
      go true false e = let z : ◌≡◌ {A = ℕ} 0 1 = cc in absurd (omega arith)
      go true true e = in_place words packed s p e
