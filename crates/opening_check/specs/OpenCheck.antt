-- The opening check. Document 01: "The opening check goes through 6, 7, 10, then 9 over all filled slots." Definitions only.
use Rattle.std.specs.Prelude.{ℕ, ◌+◌, ◌-◌, ◌*◌, Bool, true, cond, ◌&&◌, List, eqb, length, Float}
use Rattle.std.specs.Prelude.{Option, None, Some}
use Rattle.pattern_entry.specs.FirstNo.{ask, every}
use Rattle.pattern_catalog.specs.Blocks.{blocks_of, table_fits, bit_at, filled, ones_in, rank_of, place}
use Rattle.pattern_entry.specs.Stars.{stars_fit}
use Rattle.pattern_entry.specs.Entry.{bytes_at, in_section}
use Rattle.pattern_entry.specs.Validity.{entry_valid}

-- Whether the rank of a block is the number of ones before the block.
abbrev pub rank_right : List ℕ → ℕ → Bool
rank_right words block = eqb (rank_of words block) (ones_in words 0 (block * 448))

-- Whether every bit of the last block after the last slot is clear.
abbrev pub tail_clear : List ℕ → ℕ → Bool
tail_clear words slots = every (blocks_of slots * 448 - slots) (λ i. eqb (bit_at words (slots + i)) 0)

-- Question 10: "is every rank the ones before its block, every bit past the last slot clear, the section exactly 22 bytes per one?"
unfoldable pub index_right : ℕ → List ℕ → List ℕ → Bool
index_right slots words packed =
    every (blocks_of slots) (rank_right words)
    && (tail_clear words slots && eqb (length packed) (ones_in words 0 (blocks_of slots * 448) * 22))

-- Question 9 at a slot: if the slot is filled, its entry lies inside the section and is valid.
abbrev pub slot_valid : List ℕ → List ℕ → List Float → ℕ → Bool
slot_valid words packed stars s =
    cond (filled words s) (in_section packed (place words s) && entry_valid stars (bytes_at packed (place words s))) true

-- The number of the first question whose answer is no, or none where the table passes.
unfoldable pub opening : ℕ → List ℕ → List ℕ → List Float → Option ℕ
opening slots words packed stars =
    ask (table_fits slots words) (Some 6)
    (ask (stars_fit stars) (Some 7)
    (ask (index_right slots words packed) (Some 10)
    (ask (every slots (slot_valid words packed stars)) (Some 9) None)))
