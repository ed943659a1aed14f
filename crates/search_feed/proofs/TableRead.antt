-- The result of one read, case by case. Assumes nothing.
use mathlib.Core.Path.{◌≡◌, refl, sym, ap, ◌∙◌}
use Prim.Native.Nat.{ℕ, ◌+◌, ◌*◌, ◌≤◌, ◌<◌}
use native.Mathlib.Omega.{arith}
use native.Mathlib.Nat.{mod-lt}
use mathlib.Core.Bool.{Bool, true, false, cond}
use mathlib.Core.List.{List}
use lib.ListN.{length, take, drop, length-take, length-drop}
use lib.Ieee.{Float}
use borrow.Author.Tests.{leb-false, ne_eqb}
use Rattle.preprocess.specs.declared.brightness_list.Place.{Place}
use Rattle.pattern.specs.Key.{home_of, mark_of}
use Rattle.pattern_entry.specs.FirstNo.{ask}
use Rattle.pattern_entry.specs.Entry.{bytes_at, in_section, entry_read}
use Rattle.pattern_entry.specs.Validity.{entry_valid}
use Rattle.pattern_entry.specs.declared.entry.PatternEntry.{PatternEntry}
use Rattle.pattern_catalog.specs.Blocks.{filled, place}
use Rattle.pattern_catalog.specs.Answers.{filled_at, empty, refused, found_says}
use Rattle.pattern_catalog.specs.SlotRead.{slot_in}
use Rattle.pattern_catalog.proofs.SlotRead.{in_place}
use Rattle.candidates.specs.EntryTests.{test_of}
use Rattle.candidates.specs.declared.entry_tests.Image.{Image}
use Rattle.std.specs.Prelude.{Option, None, Some, Result, Ok, Err}
use Rattle.question.specs.declared.Question.{Question}
use Rattle.question.specs.Question.{number_of}
use Rattle.undivided_run.specs.declared.state.Position.{Position}
use Rattle.search_feed.specs.Data.{Data}
use Rattle.search_feed.specs.Image.{tolerance_in, pass_of, image_at}
use Rattle.search_feed.specs.Feed.{places_of, hash_of_read, slot_at}
use Rattle.search_feed.specs.TableRead.{made_candidate, evaluated_entry, table_read}
use Rattle.search_feed.specs.declared.SearchConfig.{SearchConfig}
use Rattle.search_feed.specs.declared.ReadOutcome.{ReadOutcome}
use Rattle.search_feed.specs.declared.ReadOutcome.TheVariants.{Empty}
use Rattle.question.specs.declared.Question.TheVariants.{EntryAndStars}
use Rattle.question.proofs.Numbers.{number_once}

-- The result of the read r of a search fed the data D.
abbrev pub table_read_at : Data → Position → Result ReadOutcome Question
table_read_at D r =
    table_read D.words D.packed (slot_at D r) (hash_of_read D.frame r) (places_of D.frame r.pass r.four) r.pass
    (image_at D.frame r.pass r.four) D.frame.config (pass_of D.frame r.pass).field D.stars

-- ---- The home slot.
pub home_below : (hash slots : ℕ) → 0 < slots → home_of hash slots < slots
unfolding home_of
home_below hash slots p = mod-lt _ p

-- ---- a valid entry or not
module _ (e : List ℕ) (slot hash : ℕ) (places : List Place) (pass : ℕ) (image : Image) (c : SearchConfig) (field : Float) (stars : List Float) (x : Result ReadOutcome Question) where
  pub entry_invalid : entry_valid stars e ≡ false → x ≡ Err EntryAndStars → x ≡ evaluated_entry e slot hash places pass image c field stars
  unfolding evaluated_entry
  entry_invalid h xe = xe ∙ rw h

  pub entry_tested : entry_valid stars e ≡ true → (r : PatternEntry) → r ≡ entry_read e → (m : ℕ) → m ≡ mark_of hash → (t : Float) → t ≡ tolerance_in c → (u : Option Float) → u ≡ test_of r m stars image t field c.fov → x ≡ Ok (made_candidate u pass places slot r.stars field c.radius) → x ≡ evaluated_entry e slot hash places pass image c field stars
  unfolding evaluated_entry
  entry_tested h r re m me t te u ue xe = xe ∙ rw (h, ue, re, me, te)

-- ---- The slot, by what `find_in` returns.
module _ (words packed : List ℕ) (s : ℕ) where
  pub is_empty : slot_in words packed s ≡ empty → filled words s ≡ false
  unfolding slot_in
  is_empty h = go (filled words s) (in_section packed (place words s)) h
    where
      go : (c d : Bool) → cond c (ask d (refused 9) (filled_at (place words s))) empty ≡ empty → c ≡ false
      go false d e = refl
      go true false e = absurd (let z : ◌≡◌ {A = ℕ} 0 1 = cc in omega arith)
      go true true e = absurd (let z : ◌≡◌ {A = ℕ} 0 1 = cc in omega arith)

  pub is_refused : (n : ℕ) → slot_in words packed s ≡ refused n → (filled words s ≡ true) × (in_section packed (place words s) ≡ false)
  unfolding slot_in
  is_refused n h = go (filled words s) (in_section packed (place words s)) h
    where
      go : (c d : Bool) → cond c (ask d (refused 9) (filled_at (place words s))) empty ≡ refused n → (c ≡ true) × (d ≡ false)
      go false d e = absurd (let z : ◌≡◌ {A = ℕ} 0 1 = cc in omega arith)
      go true false e = (refl, refl)
      go true true e = absurd (let z : ◌≡◌ {A = ℕ} 0 1 = cc in omega arith)

-- A slot that exists is refused with no other question than 9.
refused_9 : (words packed : List ℕ) (s n : ℕ) → slot_in words packed s ≡ refused n → 9 ≡ n
unfolding slot_in
refused_9 words packed s n h = go (filled words s) (in_section packed (place words s)) h
  where
    go : (c d : Bool) → cond c (ask d (refused 9) (filled_at (place words s))) empty ≡ refused n → 9 ≡ n
    go false d e = absurd (let z : ◌≡◌ {A = ℕ} 0 1 = cc in omega arith)
    go true false e = cc
    go true true e = absurd (let z : ◌≡◌ {A = ℕ} 0 1 = cc in omega arith)

pub outside_short : (packed : List ℕ) (p : ℕ) (stars : List Float) → in_section packed p ≡ false → entry_valid stars (bytes_at packed p) ≡ false
unfolding in_section bytes_at entry_valid
outside_short packed p stars h =
    let l = leb-false (p * 22 + 22) (length packed) h in
    rw (ne_eqb (length (take 22 (drop (p * 22) packed))) 22 (λ e. omega (arith, length-take 22 (drop (p * 22) packed), length-drop (p * 22) packed)))

module _ (words packed : List ℕ) (slot hash : ℕ) (places : List Place) (pass : ℕ) (image : Image) (c : SearchConfig) (field : Float) (stars : List Float) (f : Result (Option ℕ) Question) (fe : found_says f ≡ slot_in words packed slot) where
  abbrev there : Result ReadOutcome Question
  there = table_read words packed slot hash places pass image c field stars

  pub read_slot_empty : f ≡ Ok None → Ok Empty ≡ there
  unfolding table_read
  read_slot_empty e = rw (is_empty words packed slot (sym fe ∙ ap found_says e))

  -- A refused read is refused with question 9.
  pub read_slot_refused : (q : Question) → f ≡ Err q → Err q ≡ there
  unfolding table_read evaluated_entry
  read_slot_refused q e =
      let h : slot_in words packed slot ≡ refused (number_of q) = sym fe ∙ ap found_says e in
      let r = is_refused words packed slot (number_of q) h in
      let nine : q ≡ EntryAndStars = number_once q EntryAndStars (sym (refused_9 words packed slot (number_of q) h)) in
      rw (r.0, outside_short packed (place words slot) stars r.1) (ap Err nine)

  pub read_slot_inside : (p : ℕ) → f ≡ Ok (Some p) → p * 22 + 22 ≤ length packed
  read_slot_inside p e = (in_place words packed slot p (sym fe ∙ ap found_says e)).2

  pub read_slot_at : (p : ℕ) → f ≡ Ok (Some p) → (x : Result ReadOutcome Question) → x ≡ evaluated_entry (bytes_at packed p) slot hash places pass image c field stars → x ≡ there
  unfolding table_read
  read_slot_at p e x xe =
      let r = in_place words packed slot p (sym fe ∙ ap found_says e) in
      xe ∙ rw (r.0, r.1)
