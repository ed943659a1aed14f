-- What is seen at a slot: it is empty, its entry is valid and has another mark, or anything else. Definitions only.
use Rattle.std.specs.Prelude.{◌≡◌, ℕ, ◌/◌, ◌<◌, Bool, not, cond, ◌&&◌, List, eqb, length, Float}
use Rattle.pattern_catalog.specs.Blocks.{filled, place}
use Rattle.pattern_entry.specs.Entry.{mark_in, bytes_at}
use Rattle.pattern_entry.specs.Validity.{entry_valid}
use Rattle.fast_path.specs.declared.probe_chain.SlotPeek.{SlotPeek}
use Rattle.fast_path.specs.declared.probe_chain.SlotPeek.TheVariants.{Empty, Passed, Stop}

-- Whether an entry is valid and has another mark: "A differing mark goes on to the next probe", once question 9 has let the entry through.
unfoldable pub is_valid_mismatch : List Float → ℕ → List ℕ → Bool
is_valid_mismatch stars mark e = entry_valid stars e && not (eqb (mark_in e) mark)

-- What is seen at a slot by a chain with this mark.
unfoldable pub peek_of : List ℕ → List ℕ → List Float → ℕ → ℕ → SlotPeek
peek_of words packed stars mark slot =
    cond (filled words slot) (cond (is_valid_mismatch stars mark (bytes_at packed (place words slot))) (Passed (place words slot)) Stop) Empty

-- The place of an entry that is passed over is below the number of entries in the section.
abbrev pub PassedInside : List ℕ → SlotPeek → Type 0
PassedInside packed g = (p : ℕ) → g ≡ Passed p → p < length packed / 22
