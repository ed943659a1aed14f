-- The table's blocks. Document 01: "A block is 8 words of 64 bits: a rank, then 7 words of occupancy for 448 slots,
-- lowest bit first. The entry's place is the rank plus the ones below the slot in its block." A word past the end of the list reads as 0.
-- Definitions only.
use Rattle.std.specs.Prelude.{ℕ, zero, suc, ◌+◌, ◌*◌, ◌/◌, ◌%◌, ◌^◌, Bool, ◌&&◌, List, leb, eqb, length, get_or}

-- The number of blocks of 448 slots that are begun.
abbrev pub blocks_of : ℕ → ℕ
blocks_of slots = (slots + 447) / 448

-- Question 6: "Are there at most 2^24 slots, and is the word slice exactly 8 words long per begun block of 448?"
unfoldable pub table_fits : ℕ → List ℕ → Bool
table_fits slots words = leb slots 16777216 && eqb (length words) (blocks_of slots * 8)

-- The bit of a slot, 0 or 1. It is in one of the words after the rank of its block, lowest bit first.
unfoldable pub bit_at : List ℕ → ℕ → ℕ
bit_at words s = get_or words (s / 448 * 8 + 1 + s % 448 / 64) 0 / 2 ^ (s % 64) % 2

-- Whether the slot is filled.
abbrev pub filled : List ℕ → ℕ → Bool
filled words s = eqb (bit_at words s) 1

-- The number of ones among the n slots from slot a on.
unfoldable pub ones_in : List ℕ → ℕ → ℕ → ℕ
ones_in words a zero = 0
ones_in words a (suc n) = ones_in words a n + bit_at words (a + n)

-- The rank of a block, which is its first word.
abbrev pub rank_of : List ℕ → ℕ → ℕ
rank_of words block = get_or words (block * 8) 0

-- The place of the slot's entry: the rank plus the ones below the slot in its block. This sum never wraps.
unfoldable pub place : List ℕ → ℕ → ℕ
place words s = rank_of words (s / 448) + ones_in words (s / 448 * 448) (s % 448)
