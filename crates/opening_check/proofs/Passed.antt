-- What a passed opening check ensures of every later read of the table. Assumes nothing.
use Prim.Native.Nat.{ℕ, ◌+◌, ◌-◌, ◌*◌, ◌/◌, ◌%◌, ◌^◌, ◌≤◌, ◌<◌}
use mathlib.Core.Path.{◌≡◌, refl, sym, ap, ◌∙◌}
use mathlib.Core.Bool.{Bool, true, false, cond, ◌&&◌}
use mathlib.Core.List.{List}
use Rattle.std.specs.Prelude.{Option, None, Some}
use native.Mathlib.Omega.{arith}
use borrow.Author.Tests.{ltb-true, ltb-false, le-leb, eqb-true, ne_eqb}
use lib.Dec.{ltb, eqb}
use lib.ListN.{length, get_or}
use lib.Pow.{shr_le}
use lib.Ieee.{Float}
use Rattle.pattern_entry.specs.FirstNo.{ask, every}
use Rattle.pattern_catalog.specs.Blocks.{blocks_of, table_fits, bit_at, filled, place}
use Rattle.pattern_entry.specs.Stars.{stars_fit}
use Rattle.pattern_entry.specs.Entry.{bytes_at, in_section}
use Rattle.pattern_entry.specs.Validity.{entry_valid}
use Rattle.pattern_catalog.specs.Answers.{filled_at}
use Rattle.pattern_catalog.specs.SlotRead.{slot_in}
use Rattle.opening_check.specs.OpenCheck.{index_right, slot_valid, opening}
use Rattle.opening_check.specs.Claims.{PassedFilled, PassedEmpty, PassedPast, PassedNeverRefused}
use Rattle.pattern_entry.proofs.Every.{every_at, both_r}
use Rattle.pattern_entry.proofs.Bytes.{past_end}
use Rattle.pattern_catalog.proofs.SlotRead.{fits_long, in_empty, read_in}
use Rattle.opening_check.proofs.OpenCheck.{clear, place_is, entry_in}

-- Questions 6, 7, 10 and 9 are all answered yes.
pub record Yes (slots : ℕ) (words packed : List ℕ) (stars : List Float) : Type 0 where
  pub fits : table_fits slots words ≡ true
  pub sky : stars_fit stars ≡ true
  pub index : index_right slots words packed ≡ true
  pub valid : every slots (slot_valid words packed stars) ≡ true

pub passed : (slots : ℕ) (words packed : List ℕ) (stars : List Float) → opening slots words packed stars ≡ None → Yes slots words packed stars
unfolding opening
passed slots words packed stars h =
    go (table_fits slots words) (stars_fit stars) (index_right slots words packed) (every slots (slot_valid words packed stars)) refl refl refl refl h
  where
    go : (a b c d : Bool) → table_fits slots words ≡ a → stars_fit stars ≡ b → index_right slots words packed ≡ c → every slots (slot_valid words packed stars) ≡ d
        → ◌≡◌ {A = Option ℕ} (ask a (Some 6) (ask b (Some 7) (ask c (Some 10) (ask d (Some 9) None)))) None
        → Yes slots words packed stars
    go false b c d x w y z e = let n : ◌≡◌ {A = ℕ} 0 1 = cc in absurd (omega arith)
    go true false c d x w y z e = let n : ◌≡◌ {A = ℕ} 0 1 = cc in absurd (omega arith)
    go true true false d x w y z e = let n : ◌≡◌ {A = ℕ} 0 1 = cc in absurd (omega arith)
    go true true true false x w y z e = let n : ◌≡◌ {A = ℕ} 0 1 = cc in absurd (omega arith)
    go true true true true x w y z e = record { fits = x; sky = w; index = y; valid = z }

if_filled : (b x : Bool) → b ≡ true → cond b x true ≡ true → x ≡ true
if_filled true x f e = e
if_filled false x f e = cc

no_bit : (w k : ℕ) → w ≡ 0 → eqb (w / 2 ^ k % 2) 1 ≡ false
no_bit w k e = let h = shr_le w k in ne_eqb (w / 2 ^ k % 2) 1 (λ q. omega arith)

module _ (slots : ℕ) (words packed : List ℕ) (stars : List Float) (h : opening slots words packed stars ≡ None) where
  yes_all : Yes slots words packed stars
  yes_all = passed slots words packed stars h

  filled_in : (s : ℕ) → s < slots → filled words s ≡ true → place words s * 22 + 22 ≤ length packed
  filled_in s l f =
      let e = place_is slots words packed yes_all.index s l in
      let i = entry_in slots words packed yes_all.index s l f in
      omega arith

  found_in : (s : ℕ) → s < slots → filled words s ≡ true → slot_in words packed s ≡ filled_at (place words s)
  unfolding slot_in in_section
  found_in s l f = simp (f, le-leb (place words s * 22 + 22) (length packed) (filled_in s l f))

  valid_in : (s : ℕ) → s < slots → filled words s ≡ true → entry_valid stars (bytes_at packed (place words s)) ≡ true
  valid_in s l f =
      both_r (in_section packed (place words s)) (entry_valid stars (bytes_at packed (place words s)))
      (if_filled (filled words s) (in_section packed (place words s) && entry_valid stars (bytes_at packed (place words s))) f
      (every_at slots (slot_valid words packed stars) yes_all.valid s l))

pub passed_filled : PassedFilled
passed_filled slots words packed stars h s l f = record {
  found = sym (read_in slots words packed s (passed slots words packed stars h).fits l) ∙ found_in slots words packed stars h s l f;
  counted = place_is slots words packed (passed slots words packed stars h).index s l;
  inside = filled_in slots words packed stars h s l f;
  valid = valid_in slots words packed stars h s l f;
}

pub passed_empty : PassedEmpty
passed_empty slots words packed stars h s l f =
    sym (in_empty words packed s f ∙ read_in slots words packed s (passed slots words packed stars h).fits l)

pub passed_past : PassedPast
passed_past slots words packed stars h s l = by_test (ltb s (blocks_of slots * 448)) refl
  where
    by_test : (b : Bool) → ltb s (blocks_of slots * 448) ≡ b → filled words s ≡ false
    by_test true e =
        let k = ltb-true s (blocks_of slots * 448) e in
        let t : slots + (s - slots) ≡ s = omega arith in
        let z : bit_at words (slots + (s - slots)) ≡ 0 =
        eqb-true _ _
        (every_at (blocks_of slots * 448 - slots) (λ i. eqb (bit_at words (slots + i)) 0) (clear slots words packed (passed slots words packed stars h).index) (s - slots)
        (omega arith)) in
        let q : bit_at words s ≡ 0 = ap (bit_at words) (sym t) ∙ z in
        ne_eqb (bit_at words s) 1 (λ o. omega arith)
    by_test false e = unfold bit_at in
        (let k = ltb-false s (blocks_of slots * 448) e in
        let n = fits_long slots words (passed slots words packed stars h).fits in
        no_bit (get_or words (s / 448 * 8 + 1 + s % 448 / 64) 0) (s % 64)
        (past_end words (s / 448 * 8 + 1 + s % 448 / 64) (omega arith)))

pub passed_never_refused : PassedNeverRefused
passed_never_refused slots words packed stars h s l n r = by_test (filled words s) refl
  where
    by_test : (b : Bool) → filled words s ≡ b → ⊥
    by_test true f = let e = (passed_filled slots words packed stars h s l f).found in let z : ◌≡◌ {A = ℕ} 0 1 = cc in omega arith
    by_test false f = let e = passed_empty slots words packed stars h s l f in let z : ◌≡◌ {A = ℕ} 0 1 = cc in omega arith
