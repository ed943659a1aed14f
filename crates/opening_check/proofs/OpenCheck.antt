-- The laws that the proofs of the opening check's loops and branches use. After question 10 the packed entries are those of the filled slots, in order.
-- Assumes nothing.
use Prim.Native.Nat.{ℕ, zero, suc, ◌+◌, ◌-◌, ◌*◌, ◌/◌, ◌%◌, ◌≤◌, ◌<◌}
use mathlib.Core.Path.{◌≡◌, refl, sym, ap, ap₂, ◌∙◌}
use mathlib.Core.Bool.{Bool, true, false, cond, ◌&&◌, and-true}
use mathlib.Core.List.{List}
use Rattle.std.specs.Prelude.{Option, None, Some}
use native.Mathlib.Omega.{arith}
use native.Mathlib.Nat.{add-zero, zero-add}
use borrow.Author.Tests.{eq-eqb, ne_eqb, eqb-true, le-leb}
use lib.Dec.{eqb}
use lib.ListN.{length}
use lib.Ieee.{Float}
use Rattle.pattern_entry.specs.FirstNo.{every}
use Rattle.pattern_catalog.specs.Blocks.{blocks_of, table_fits, bit_at, filled, ones_in, rank_of, place}
use Rattle.pattern_entry.specs.Stars.{stars_fit, star_count}
use Rattle.pattern_entry.specs.Entry.{bytes_at, in_section}
use Rattle.pattern_entry.specs.Validity.{entry_valid}
use Rattle.opening_check.specs.OpenCheck.{rank_right, tail_clear, index_right, slot_valid, opening}
use Rattle.opening_check.specs.Shortcuts.{ranks_read, all_valid, all_below}
use Rattle.pattern_entry.specs.StarsShortcuts.{every_star}
use Rattle.pattern_entry.specs.ValidityShortcuts.{indices_below}
use Rattle.pattern_entry.proofs.Indices.{indices_valid_at}
use Rattle.pattern_entry.proofs.Every.{every_suc, every_at, every_fails, every_same, both_l, both_r}
use Rattle.pattern_catalog.proofs.CountOnes.{bit_le, ones_join, ones_suc}

-- ---- the packed entries

-- Where every star of the slice is valid, the star indices of the entries decide.
pub below_all : (stars : List Float) → every_star stars ≡ true → (packed : List ℕ) (n : ℕ) → n * 22 ≤ length packed
    → all_below packed (star_count stars) n ≡ all_valid packed stars n
unfolding all_below all_valid
below_all stars valid packed n h =
    every_same n (λ p. indices_below (star_count stars) (bytes_at packed p)) (λ p. entry_valid stars (bytes_at packed p))
    (λ p l. indices_valid_at stars valid packed p (omega arith))

-- ---- the ranks

pub block_more : (words : List ℕ) (b : ℕ) → ones_in words 0 ((b + 1) * 448) ≡ ones_in words 0 (b * 448) + ones_in words (b * 448) 448
block_more words b =
    let e : (b + 1) * 448 ≡ b * 448 + 448 = omega arith in
    let z : 0 + b * 448 ≡ b * 448 = omega arith in
    ap (ones_in words 0) e ∙ ones_join words 0 (b * 448) 448
    ∙ ap (λ (a : ℕ). ones_in words 0 (b * 448) + ones_in words a 448) z

module _ (words : List ℕ) where
  pub ranks_wrong : (blocks b : ℕ) → b < blocks → (rank_of words b ≡ ones_in words 0 (b * 448) → ⊥) → ◌≡◌ {A = Option ℕ} None (ranks_read words blocks)
  unfolding ranks_read
  ranks_wrong blocks b h f = simp (every_fails blocks (rank_right words) b h (ne_eqb _ _ f))

  pub ranks_right : (blocks : ℕ) → every blocks (rank_right words) ≡ true → Some (ones_in words 0 (blocks * 448)) ≡ ranks_read words blocks
  unfolding ranks_read
  ranks_right blocks a = simp a

-- ---- the bits past the last slot

zero_sum : (x y : ℕ) → (eqb x 0 && eqb y 0) ≡ eqb (x + y) 0
zero_sum zero y = ap (λ (n : ℕ). eqb n 0) (sym (zero-add y))
zero_sum (suc x) y =
    ap (λ (b : Bool). b && eqb y 0) (ne_eqb (suc x) 0 (λ e. omega arith)) ∙ sym (ne_eqb (suc x + y) 0 (λ e. omega arith))

pub clear_is : (words : List ℕ) (a n : ℕ) → every n (λ i. eqb (bit_at words (a + i)) 0) ≡ eqb (ones_in words a n) 0
unfolding every ones_in
clear_is words a zero = refl
clear_is words a (suc n) =
    ap (λ (b : Bool). b && eqb (bit_at words (a + n)) 0) (clear_is words a n) ∙ zero_sum (ones_in words a n) (bit_at words (a + n))

more_is : (x y : ℕ) → eqb (x + y) x ≡ eqb y 0
more_is x zero = eq-eqb (x + 0) x (omega arith)
more_is x (suc y) = ne_eqb (x + suc y) x (λ e. omega arith) ∙ sym (ne_eqb (suc y) 0 (λ e. omega arith))

module _ (words : List ℕ) (slots : ℕ) where
  pub tail_none : slots % 448 ≡ 0 → true ≡ tail_clear words slots
  unfolding every
  tail_none h =
      let e : blocks_of slots * 448 - slots ≡ 0 = omega arith in
      sym (ap (λ (n : ℕ). every n (λ i. eqb (bit_at words (slots + i)) 0)) e)

  pub tail_is : (slots % 448 ≡ 0 → ⊥)
      → eqb (ones_in words (slots / 448 * 448) 448) (ones_in words (slots / 448 * 448) (slots % 448)) ≡ tail_clear words slots
  tail_is h =
      let e : blocks_of slots * 448 - slots ≡ 448 - slots % 448 = omega arith in
      let t : slots % 448 + (448 - slots % 448) ≡ 448 = omega arith in
      let a : slots / 448 * 448 + slots % 448 ≡ slots = omega arith in
      let j : ones_in words (slots / 448 * 448) 448 ≡ ones_in words (slots / 448 * 448) (slots % 448) + ones_in words slots (448 - slots % 448) =
      ap (ones_in words (slots / 448 * 448)) (sym t) ∙ ones_join words (slots / 448 * 448) (slots % 448) (448 - slots % 448)
      ∙ ap (λ (x : ℕ). ones_in words (slots / 448 * 448) (slots % 448) + ones_in words x (448 - slots % 448)) a in
      ap (λ (x : ℕ). eqb x (ones_in words (slots / 448 * 448) (slots % 448))) j
      ∙ more_is (ones_in words (slots / 448 * 448) (slots % 448)) (ones_in words slots (448 - slots % 448))
      ∙ sym (clear_is words slots (448 - slots % 448))
      ∙ sym (ap (λ (n : ℕ). every n (λ i. eqb (bit_at words (slots + i)) 0)) e)

-- ---- question 10

pub right_ranks : (words : List ℕ) (blocks n : ℕ) → ranks_read words blocks ≡ Some n → every blocks (rank_right words) ≡ true
unfolding ranks_read
right_ranks words blocks n h = by_test (every blocks (rank_right words)) h
  where
    by_test : (b : Bool) → cond b (Some (ones_in words 0 (blocks * 448))) None ≡ Some n → b ≡ true
    by_test true e = refl
    by_test false e = let z : ◌≡◌ {A = ℕ} 0 1 = cc in absurd (omega arith)

pub right_total : (words : List ℕ) (blocks n : ℕ) → ranks_read words blocks ≡ Some n → n ≡ ones_in words 0 (blocks * 448)
unfolding ranks_read
right_total words blocks n h = by_test (every blocks (rank_right words)) h
  where
    by_test : (b : Bool) → cond b (Some (ones_in words 0 (blocks * 448))) None ≡ Some n → n ≡ ones_in words 0 (blocks * 448)
    by_test true e = cc
    by_test false e = let z : ◌≡◌ {A = ℕ} 0 1 = cc in absurd (omega arith)

wrong_ranks : (words : List ℕ) (blocks : ℕ) → ranks_read words blocks ≡ None → every blocks (rank_right words) ≡ false
unfolding ranks_read
wrong_ranks words blocks h = by_test (every blocks (rank_right words)) h
  where
    by_test : (b : Bool) → cond b (Some (ones_in words 0 (blocks * 448))) None ≡ None → b ≡ false
    by_test true e = let z : ◌≡◌ {A = ℕ} 0 1 = cc in absurd (omega arith)
    by_test false e = refl

middle_false : (a c : Bool) → false ≡ (a && (false && c))
middle_false true c = refl
middle_false false c = refl

module _ (slots : ℕ) (words packed : List ℕ) where
  pub index_wrong : ranks_read words (blocks_of slots) ≡ None → false ≡ index_right slots words packed
  unfolding index_right
  index_wrong h = simp (wrong_ranks words (blocks_of slots) h)

  pub index_tail : tail_clear words slots ≡ false → false ≡ index_right slots words packed
  unfolding index_right
  index_tail h = rw h (middle_false (every (blocks_of slots) (rank_right words)) (eqb (length packed) (ones_in words 0 (blocks_of slots * 448) * 22)))

  pub index_is : (n : ℕ) → ranks_read words (blocks_of slots) ≡ Some n → tail_clear words slots ≡ true
      → eqb (length packed) (n * 22) ≡ index_right slots words packed
  unfolding index_right
  index_is n h t =
      rw (right_ranks words (blocks_of slots) n h, t) (ap (λ (x : ℕ). eqb (length packed) (x * 22)) (right_total words (blocks_of slots) n h))

-- ---- after question 10 the packed entries are the filled slots in order

module _ (slots : ℕ) (words packed : List ℕ) (right : index_right slots words packed ≡ true) where
  ranks : every (blocks_of slots) (rank_right words) ≡ true
  unfolding index_right
  ranks = both_l _ (tail_clear words slots && eqb (length packed) (ones_in words 0 (blocks_of slots * 448) * 22)) right

  pub clear : tail_clear words slots ≡ true
  unfolding index_right
  clear =
      both_l (tail_clear words slots) (eqb (length packed) (ones_in words 0 (blocks_of slots * 448) * 22))
      (both_r (every (blocks_of slots) (rank_right words)) _ right)

  long : length packed ≡ ones_in words 0 (blocks_of slots * 448) * 22
  unfolding index_right
  long =
      eqb-true _ _
      (both_r (tail_clear words slots) (eqb (length packed) (ones_in words 0 (blocks_of slots * 448) * 22))
      (both_r (every (blocks_of slots) (rank_right words)) _ right))

  -- The place of a slot's entry is the number of filled slots below the slot.
  pub place_is : (s : ℕ) → s < slots → place words s ≡ ones_in words 0 s
  unfolding place
  place_is s h =
      let r : rank_of words (s / 448) ≡ ones_in words 0 (s / 448 * 448) =
      eqb-true _ _ (every_at (blocks_of slots) (rank_right words) ranks (s / 448) (omega arith)) in
      let z : 0 + s / 448 * 448 ≡ s / 448 * 448 = omega arith in
      let e : s / 448 * 448 + s % 448 ≡ s = omega arith in
      ap₂ ◌+◌ r (ap (λ (a : ℕ). ones_in words a (s % 448)) (sym z))
      ∙ sym (ones_join words 0 (s / 448 * 448) (s % 448)) ∙ ap (ones_in words 0) e

  -- There are as many entries as filled slots.
  pub stored_is : length packed ≡ ones_in words 0 slots * 22
  stored_is =
      let e : slots + (blocks_of slots * 448 - slots) ≡ blocks_of slots * 448 = omega arith in
      let z : 0 + slots ≡ slots = omega arith in
      let t : ones_in words slots (blocks_of slots * 448 - slots) ≡ 0 =
      eqb-true _ _ (sym (clear_is words slots (blocks_of slots * 448 - slots)) ∙ clear) in
      let j : ones_in words 0 (blocks_of slots * 448) ≡ ones_in words 0 slots + ones_in words slots (blocks_of slots * 448 - slots) =
      ap (ones_in words 0) (sym e) ∙ ones_join words 0 slots (blocks_of slots * 448 - slots)
      ∙ ap (λ (a : ℕ). ones_in words 0 slots + ones_in words a (blocks_of slots * 448 - slots)) z in
      let l = long in
      omega arith

  -- The entry of a filled slot is among them.
  pub entry_in : (s : ℕ) → s < slots → filled words s ≡ true → ones_in words 0 s * 22 + 22 ≤ length packed
  entry_in s h f =
      let b : bit_at words s ≡ 1 = eqb-true _ _ f in
      let z : bit_at words (0 + s) ≡ bit_at words s = ap (bit_at words) (zero-add s) in
      let n : ones_in words 0 (s + 1) ≡ ones_in words 0 s + bit_at words (0 + s) = ones_suc words 0 s in
      let e : s + 1 + (slots - (s + 1)) ≡ slots = omega arith in
      let j : ones_in words 0 slots ≡ ones_in words 0 (s + 1) + ones_in words (0 + (s + 1)) (slots - (s + 1)) =
      ap (ones_in words 0) (sym e) ∙ ones_join words 0 (s + 1) (slots - (s + 1)) in
      let l = stored_is in
      omega arith

-- Question 9 over the filled slots is question 9 over that many entries.
counted : (words : List ℕ) (g : ℕ → Bool) (n : ℕ) → every n (λ s. cond (filled words s) (g (ones_in words 0 s)) true) ≡ every (ones_in words 0 n) g
unfolding every ones_in
counted words g zero = refl
counted words g (suc n) =
    ap (λ (b : Bool). b && cond (filled words n) (g (ones_in words 0 n)) true) (counted words g n)
    ∙ by_bit (bit_at words n) refl
    ∙ ap (λ (m : ℕ). every (ones_in words 0 n + bit_at words m) g) (sym (zero-add n))
  where
    by_bit : (b : ℕ) → bit_at words n ≡ b
        → (every (ones_in words 0 n) g && cond (filled words n) (g (ones_in words 0 n)) true) ≡ every (ones_in words 0 n + bit_at words n) g
    by_bit zero e = rw (e, add-zero) (and-true (every (ones_in words 0 n) g))
    by_bit (suc zero) e = rw e (sym (every_suc (ones_in words 0 n) g))
    by_bit (suc (suc b)) e = absurd (omega (arith, bit_le words n))

pub scan :
    (slots : ℕ) (words packed : List ℕ) (stars : List Float) → index_right slots words packed ≡ true
    → every slots (slot_valid words packed stars) ≡ all_valid packed stars (length packed / 22)
unfolding all_valid in_section
scan slots words packed stars right =
    every_same slots (slot_valid words packed stars)
    (λ s. cond (filled words s) (entry_valid stars (bytes_at packed (ones_in words 0 s))) true) (λ s h. at s h (filled words s) refl)
    ∙ counted words (λ p. entry_valid stars (bytes_at packed p)) slots
    ∙ ap (λ (n : ℕ). every n (λ p. entry_valid stars (bytes_at packed p))) many
  where
    at : (s : ℕ) → s < slots → (b : Bool) → filled words s ≡ b
        → slot_valid words packed stars s ≡ cond (filled words s) (entry_valid stars (bytes_at packed (ones_in words 0 s))) true
    at s h true f =
        rw (f, place_is slots words packed right s h)
        (simp (le-leb (ones_in words 0 s * 22 + 22) (length packed) (entry_in slots words packed right s h f)))
    at s h false f = rw f

    many : ones_in words 0 slots ≡ length packed / 22
    many = let l = stored_is slots words packed right in omega arith

-- ---- the answers

module _ (slots : ℕ) (words packed : List ℕ) (stars : List Float) where
  pub open_6 : table_fits slots words ≡ false → Some 6 ≡ opening slots words packed stars
  unfolding opening
  open_6 a = simp a

  pub open_7 : table_fits slots words ≡ true → stars_fit stars ≡ false → Some 7 ≡ opening slots words packed stars
  unfolding opening
  open_7 a b = simp (a, b)

  pub open_10 : table_fits slots words ≡ true → stars_fit stars ≡ true → index_right slots words packed ≡ false
      → Some 10 ≡ opening slots words packed stars
  unfolding opening
  open_10 a b c = simp (a, b, c)

  pub open_9 : table_fits slots words ≡ true → stars_fit stars ≡ true → index_right slots words packed ≡ true
      → all_valid packed stars (length packed / 22) ≡ false → Some 9 ≡ opening slots words packed stars
  unfolding opening
  open_9 a b c d = simp (a, b, c, scan slots words packed stars c ∙ d)

  pub open_passed : table_fits slots words ≡ true → stars_fit stars ≡ true → index_right slots words packed ≡ true
      → all_valid packed stars (length packed / 22) ≡ true → None ≡ opening slots words packed stars
  unfolding opening
  open_passed a b c d = simp (a, b, c, scan slots words packed stars c ∙ d)
