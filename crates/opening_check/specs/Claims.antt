-- What callers may rely on, as statements. The files of proofs/ prove each one under the name given in its comment. Definitions only.
use Rattle.std.specs.Prelude.{ℕ, ◌+◌, ◌*◌, ◌≤◌, ◌<◌, ◌≡◌, true, false, List, length, Float}
use Rattle.std.specs.Prelude.{None}
use Rattle.pattern_catalog.specs.Blocks.{filled, ones_in, place}
use Rattle.pattern_entry.specs.Entry.{bytes_at}
use Rattle.pattern_entry.specs.Validity.{entry_valid}
use Rattle.pattern_catalog.specs.Answers.{filled_at, empty, refused}
use Rattle.pattern_catalog.specs.SlotRead.{slot_read}
use Rattle.opening_check.specs.OpenCheck.{opening}

-- ---- what a passed opening check gives every later read, proofs/Passed

-- What holds of a filled slot: the read finds its entry at its place, which is the number of filled slots below it; the entry's 22 bytes lie
-- inside the section, and it is valid.
pub record EntryStored (slots : ℕ) (words packed : List ℕ) (stars : List Float) (s : ℕ) : Type 0 where
  pub found : slot_read slots words packed s ≡ filled_at (place words s)
  pub counted : place words s ≡ ones_in words 0 s
  pub inside : place words s * 22 + 22 ≤ length packed
  pub valid : entry_valid stars (bytes_at packed (place words s)) ≡ true

-- The entry of each filled slot is stored in this way. Proved as `passed_filled`.
abbrev pub PassedFilled : Type 0
PassedFilled = (slots : ℕ) (words packed : List ℕ) (stars : List Float) → opening slots words packed stars ≡ None
    → (s : ℕ) → s < slots → filled words s ≡ true → EntryStored slots words packed stars s

-- Each slot that isn't filled reads as empty. Proved as `passed_empty`.
abbrev pub PassedEmpty : Type 0
PassedEmpty = (slots : ℕ) (words packed : List ℕ) (stars : List Float) → opening slots words packed stars ≡ None
    → (s : ℕ) → s < slots → filled words s ≡ false → slot_read slots words packed s ≡ empty

-- No slot number from the slot count on has its bit set. Proved as `passed_past`.
abbrev pub PassedPast : Type 0
PassedPast = (slots : ℕ) (words packed : List ℕ) (stars : List Float) → opening slots words packed stars ≡ None
    → (s : ℕ) → slots ≤ s → filled words s ≡ false

-- No read of a slot below the slot count is refused. Proved as `passed_never_refused`.
abbrev pub PassedNeverRefused : Type 0
PassedNeverRefused = (slots : ℕ) (words packed : List ℕ) (stars : List Float) → opening slots words packed stars ≡ None
    → (s : ℕ) → s < slots → (n : ℕ) → slot_read slots words packed s ≡ refused n → ⊥
