-- Numbers as little-endian bytes. Definitions only.
use Rattle.std.specs.Prelude.{ℕ, ◌+◌, ◌*◌, List, slice_index}

-- The number whose four little-endian bytes, the lowest first, are the first four of the list.
abbrev pub word_of : List ℕ → ℕ
word_of b = slice_index b 0 + slice_index b 1 * 0x100 + slice_index b 2 * 0x1_0000 + slice_index b 3 * 0x100_0000
