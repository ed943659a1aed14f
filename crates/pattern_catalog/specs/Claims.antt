-- What callers may rely on, as statements. The files of proofs/ prove each one under the name given in its comment. Definitions only.
use Rattle.std.specs.Prelude.{ℕ, ◌≡◌, List, [], length, Result, Ok}
use Rattle.pattern_catalog.specs.Blocks.{place}
use Rattle.pattern_entry.specs.Entry.{bytes_at}
use Rattle.pattern_catalog.specs.Answers.{slot_says}
use Rattle.pattern_catalog.specs.SlotRead.{slot_read, section_part}
use Rattle.pattern_catalog.specs.declared.slot_read.Slot.{Slot}
use Rattle.question.specs.declared.Question.{Question}

-- ---- the slot read's two calls, proofs/Parts

-- Two answers of `slot_of` that say the same of a slot are the same answer. Proved as `slot_says_once`.
abbrev pub SlotSaysOnce : Type 0
SlotSaysOnce = (words : List ℕ) (s : ℕ) (a b : Result Slot Question) → slot_says words s a ≡ slot_says words s b → a ≡ b

-- Where `slot_of` says filled, the part is the 22 bytes at the slot's place. Proved as `part_filled`.
abbrev pub PartFilled : Type 0
PartFilled = (slots : ℕ) (words packed : List ℕ) (s : ℕ) → slot_says words s (Ok Slot.Filled) ≡ slot_read slots words packed s
    → (section_part packed (slot_read slots words packed s) ≡ bytes_at packed (place words s)) × (length (section_part packed (slot_read slots words packed s)) ≡ 22)

-- Where `slot_of` does not say filled, the part is empty. Proved as `part_empty`.
abbrev pub PartEmpty : Type 0
PartEmpty = (slots : ℕ) (words packed : List ℕ) (s : ℕ) (r : Result Slot Question) → slot_says words s r ≡ slot_read slots words packed s
    → (r ≡ Ok Slot.Filled → ⊥) → section_part packed (slot_read slots words packed s) ≡ []
