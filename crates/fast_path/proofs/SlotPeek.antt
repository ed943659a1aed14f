-- What is seen at a slot, case by case. Assumes nothing.
use mathlib.Core.Path.{◌≡◌, refl, sym, ap, ◌∙◌}
use Prim.Native.Nat.{ℕ, ◌+◌, ◌*◌, ◌≤◌}
use mathlib.Core.Bool.{Bool, true, false, cond, ◌&&◌}
use mathlib.Core.List.{List}
use lib.Dec.{ltb}
use lib.ListN.{length}
use lib.Ieee.{Float}
use native.Mathlib.Omega.{arith}
use borrow.Author.Tests.{ltb-true, eq-eqb, ne_eqb}
use Rattle.pattern_entry.specs.Stars.{star_valid}
use Rattle.pattern_entry.specs.Entry.{word_at, mark_in, bytes_at}
use Rattle.pattern_entry.specs.Validity.{entry_valid}
use Rattle.pattern_entry.specs.ValidityShortcuts.{indices_below}
use Rattle.pattern_entry.proofs.Every.{both_l, both_r}
use Rattle.pattern_catalog.specs.Blocks.{filled, place}
use Rattle.pattern_catalog.specs.Answers.{found_says}
use Rattle.pattern_catalog.specs.SlotRead.{slot_in}
use Rattle.std.specs.Prelude.{Option, None, Some, Result, Ok, Err}
use Rattle.question.specs.Question.{number_of}
use Rattle.question.specs.declared.Question.{Question}
use Rattle.pattern_catalog.proofs.SlotRead.{in_place}
use Rattle.search_feed.proofs.TableRead.{is_empty, is_refused, outside_short}
use Rattle.fast_path.specs.ValidStars.{ValidBelow}
use Rattle.fast_path.specs.SlotPeek.{is_valid_mismatch, peek_of, PassedInside}
use Rattle.fast_path.specs.declared.probe_chain.SlotPeek.{SlotPeek}
use Rattle.fast_path.specs.declared.probe_chain.SlotPeek.TheVariants.{Empty, Passed, Stop}

and_no : (b : Bool) → (b && false) ≡ false
and_no true = refl
and_no false = refl

-- ---- The bytes of an entry.
module _ (stars : List Float) (mark : ℕ) (e : List ℕ) (m : ℕ) (me : m ≡ mark_in e) where
  pub mark_same : m ≡ mark → false ≡ is_valid_mismatch stars mark e
  unfolding is_valid_mismatch
  mark_same h = sym (rw (eq-eqb (mark_in e) mark (sym me ∙ h)) (and_no (entry_valid stars e)))

  module _ (o : m ≡ mark → ⊥) where
    other_mark : is_valid_mismatch stars mark e ≡ (entry_valid stars e && true)
    unfolding is_valid_mismatch
    other_mark = rw (ne_eqb (mark_in e) mark (λ h. o (me ∙ h)))

    pub mark_other : (b : Bool) → b ≡ entry_valid stars e → b ≡ is_valid_mismatch stars mark e
    mark_other b h = h ∙ by (entry_valid stars e) ∙ sym other_mark
      where
        by : (c : Bool) → c ≡ (c && true)
        by true = refl
        by false = refl

-- An entry is valid where all its star indices are below n and every star below n is valid.
pub below_valid : (stars : List Float) (n : ℕ) → ValidBelow stars n → (e : List ℕ) → length e ≡ 22 → indices_below n e ≡ true → true ≡ entry_valid stars e
unfolding indices_below entry_valid
below_valid stars n s e l h =
    let r = both_r (ltb (word_at e 0) n) (ltb (word_at e 4) n && (ltb (word_at e 8) n && ltb (word_at e 12) n)) h in
    let q = both_r (ltb (word_at e 4) n) (ltb (word_at e 8) n && ltb (word_at e 12) n) r in
    let at : (k : ℕ) → ltb (word_at e k) n ≡ true → star_valid stars (word_at e k) ≡ true = λ k t. s (word_at e k) (ltb-true (word_at e k) n t) in
    sym (rw (
      eq-eqb (length e) 22 l,
      at 0 (both_l (ltb (word_at e 0) n) (ltb (word_at e 4) n && (ltb (word_at e 8) n && ltb (word_at e 12) n)) h),
      at 4 (both_l (ltb (word_at e 4) n) (ltb (word_at e 8) n && ltb (word_at e 12) n) r),
      at 8 (both_l (ltb (word_at e 8) n) (ltb (word_at e 12) n) q),
      at 12 (both_r (ltb (word_at e 8) n) (ltb (word_at e 12) n) q),
    ))

-- ---- The slot, by what `find_near` returns.
module _ (words packed : List ℕ) (stars : List Float) (mark slot : ℕ) (f : Result (Option ℕ) Question) (fe : found_says f ≡ slot_in words packed slot) where
  -- What `peek_slot` promises of its result.
  abbrev pub Shown : SlotPeek → Type 0
  Shown g = (g ≡ peek_of words packed stars mark slot) × PassedInside packed g

  pub show_empty : f ≡ Ok None → Shown Empty
  unfolding peek_of
  show_empty e = (sym (rw (is_empty words packed slot (sym fe ∙ ap found_says e))), λ p h. let z : ◌≡◌ {A = ℕ} 0 1 = cc (h) in absurd (omega arith))

  stop_inside : PassedInside packed Stop
  stop_inside p h = let z : ◌≡◌ {A = ℕ} 0 1 = cc (h) in absurd (omega arith)

  pub show_refused : (q : Question) → f ≡ Err q → Shown Stop
  unfolding peek_of is_valid_mismatch
  show_refused q e =
      let r = is_refused words packed slot (number_of q) (sym fe ∙ ap found_says e) in
      (sym (rw (r.0, outside_short packed (place words slot) stars r.1)), stop_inside)

  module _ (p : ℕ) (e : f ≡ Ok (Some p)) where
    pub peek_inside : p * 22 + 22 ≤ length packed
    peek_inside = (in_place words packed slot p (sym fe ∙ ap found_says e)).2

    module _ (b : Bool) (be : b ≡ is_valid_mismatch stars mark (bytes_at packed p)) where
      pub show_stop : b ≡ false → Shown Stop
      unfolding peek_of
      show_stop t = let r = in_place words packed slot p (sym fe ∙ ap found_says e) in (sym (rw (r.0, ← r.1, ← be, t)), stop_inside)

      pub show_passed : b ≡ true → Shown (Passed p)
      unfolding peek_of
      show_passed t =
          let r = in_place words packed slot p (sym fe ∙ ap found_says e) in
          (sym (rw (r.0, ← r.1, ← be, t)), λ n h. let q : p ≡ n = cc (h) in omega (arith, q, r.2))

-- The place that is passed over is the slot's.
pub passed_place : (words packed : List ℕ) (stars : List Float) (mark slot n : ℕ) → peek_of words packed stars mark slot ≡ Passed n → n ≡ place words slot
unfolding peek_of
passed_place words packed stars mark slot n h = by (filled words slot) (is_valid_mismatch stars mark (bytes_at packed (place words slot))) h
  where
    by : (b c : Bool) → cond b (cond c (Passed (place words slot)) Stop) Empty ≡ Passed n → n ≡ place words slot
    by true true e = cc (e)
    by true false e = let z : ◌≡◌ {A = ℕ} 0 1 = cc (e) in absurd (omega arith)
    by false c e = let z : ◌≡◌ {A = ℕ} 0 1 = cc (e) in absurd (omega arith)
