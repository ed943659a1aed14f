-- The packed entries. Document 01: "The bytes are four star indices (u32), largest edge (f32), mark (u16), little-endian."
-- A byte past the end of a list reads as 0. Definitions only.
use Rattle.std.specs.Prelude.{ℕ, ◌+◌, ◌*◌, Bool, List, [], ◌∷◌, leb, length, get_or, take, drop}
use Rattle.std.specs.Float.{binary32}
use Rattle.std.specs.Float.Ieee.{of_bits}
use Rattle.numeric.specs.Bytes.{word_of}
use Rattle.pattern_entry.specs.declared.stars.StarIndex.{StarIndex}
use Rattle.pattern_entry.specs.declared.entry.PatternEntry.{PatternEntry}

-- The 22 bytes of the entry at a place of the packed section. They are fewer where the section ends before.
unfoldable pub bytes_at : List ℕ → ℕ → List ℕ
bytes_at packed p = take 22 (drop (p * 22) packed)

-- Question 9 for the section: "Does the entry read lie inside the packed section"
unfoldable pub in_section : List ℕ → ℕ → Bool
in_section packed p = leb (p * 22 + 22) (length packed)

-- The u32 that begins at byte `at`.
abbrev pub word_at : List ℕ → ℕ → ℕ
word_at e at = word_of (get_or e at 0 ∷ get_or e (at + 1) 0 ∷ get_or e (at + 2) 0 ∷ get_or e (at + 3) 0 ∷ [])

-- The u16 that begins at byte `at`.
abbrev pub half_at : List ℕ → ℕ → ℕ
half_at e at = get_or e at 0 + get_or e (at + 1) 0 * 0x100

-- The star index n.
abbrev pub star : ℕ → StarIndex
star n = record { 0 = n }

-- The mark, which is the last two bytes.
abbrev pub mark_in : List ℕ → ℕ
mark_in e = half_at e 20

-- The entry that the bytes hold. Its edge may have any bit pattern, also that of a NaN.
abbrev pub entry_read : List ℕ → PatternEntry
entry_read e = record {
  stars = star (word_at e 0) ∷ star (word_at e 4) ∷ star (word_at e 8) ∷ star (word_at e 12) ∷ [];
  edge = of_bits binary32 (word_at e 16);
  mark = mark_in e;
}
