-- The slot read. Document 01: "The slot read: 6, then 11 (is the slot below the slot count?), then 9 for the section only." Definitions only.
use Rattle.std.specs.Prelude.{ℕ, ◌*◌, cond, List, [], ltb}
use Rattle.pattern_entry.specs.FirstNo.{ask}
use Rattle.pattern_catalog.specs.Blocks.{table_fits, filled, place}
use Rattle.pattern_entry.specs.Entry.{bytes_at, in_section}
use Rattle.pattern_catalog.specs.Answers.{Answer, filled_at, empty, refused}

-- The read of a slot that exists. An empty slot reads as empty, and of a filled one question 9 is asked for the section.
unfoldable pub slot_in : List ℕ → List ℕ → ℕ → Answer
slot_in words packed s = cond (filled words s) (ask (in_section packed (place words s)) (refused 9) (filled_at (place words s))) empty

-- The slot read, whatever is lent.
unfoldable pub slot_read : ℕ → List ℕ → List ℕ → ℕ → Answer
slot_read slots words packed s = ask (table_fits slots words) (refused 6) (ask (ltb s slots) (refused 11) (slot_in words packed s))

-- "hands back the entry's own 22 bytes of the lent section, or an empty part of it", "empty unless it says filled"
abbrev pub section_part : List ℕ → Answer → List ℕ
section_part packed (filled_at p) = bytes_at packed p
section_part packed empty = []
section_part packed (refused n) = []

-- The index of the section at which the part begins: an entry's begins at its place times 22, and an empty part at 0.
abbrev pub part_start : Answer → ℕ
part_start (filled_at p) = p * 22
part_start empty = 0
part_start (refused n) = 0
