-- What callers may rely on, as statements. The files of proofs/ prove each one under the name given in its comment. Definitions only.
use Rattle.std.specs.Prelude.{ℕ, ◌+◌, ◌*◌, ◌≤◌, ◌≡◌, true, List, length, Float}
use Rattle.pattern_entry.specs.Stars.{star_count, star_valid}
use Rattle.pattern_entry.specs.StarsShortcuts.{every_star}
use Rattle.pattern_entry.specs.Entry.{bytes_at, word_at}
use Rattle.pattern_entry.specs.Validity.{entry_valid}
use Rattle.pattern_entry.specs.ValidityShortcuts.{indices_below}

-- ---- what a yes to question 9 gives, proofs/EntryValid.antt

-- A valid entry has 22 bytes, and each of its four stars is valid. Proved as `valid_entry`.
abbrev pub ValidEntry : Type 0
ValidEntry = (stars : List Float) (e : List ℕ) → entry_valid stars e ≡ true
    → (length e ≡ 22)
    × (star_valid stars (word_at e 0) ≡ true)
    × (star_valid stars (word_at e 4) ≡ true)
    × (star_valid stars (word_at e 8) ≡ true)
    × (star_valid stars (word_at e 12) ≡ true)

-- ---- the shorter way, proofs/Indices

-- Where every star of the slice is valid, the entry at a place inside the section is valid exactly if its indices are inside the slice.
-- Proved as `indices_valid_at`.
abbrev pub IndicesValidAt : Type 0
IndicesValidAt = (stars : List Float) → every_star stars ≡ true → (packed : List ℕ) (p : ℕ) → p * 22 + 22 ≤ length packed
    → indices_below (star_count stars) (bytes_at packed p) ≡ entry_valid stars (bytes_at packed p)
