-- The format of a replay stream, and how long a payload is. Definitions only.
--
-- A stream is a list of records, and it ends where the input ends. A record is its kind (u32), the length of its payload in bytes (u32, a
-- multiple of 4), and the payload. All numbers are little-endian; an f32 is written as its bits, a u64 as two words, the low one first. What a
-- record sets stays until another record sets it; at the start all is empty and the state is fresh. A record that is larger than the arrays
-- have room for, of an unknown kind or cut short can't be read.
--
--   kind         payload, in words of 32 bits
--    1 table     slots, words, bytes, floats; then words × u64, the bytes padded with 0 to a multiple of 4, floats × f32
--    2 frame     centroids, order, passes; then centroids × f32, order × u32, passes × f32
--    3 settings  bins, checking stars, table error f32, match radius f32, match_max_error (present, f32), fov_max_error_rad (present, f32),
--                cap (present, u64), pattern count u64
--    4 fresh     none
--    5 state     phase (0 fresh, 1 ended, 2 at its next read), status (0 TooFew, 1 NoMatch, 2 Timeout), pass, four positions, key, probe,
--                patterns u64, reads u64
--    6 call      allowance u64
--    7 run       allowance u64
--    8 open      none
--    9 slot      slot u64
--   10 sweep     estimate f32, error (present, f32), step f32, room
--   11 complete  pass, four places, four stars, field f32, rebuild mark, scale f32
use Rattle.std.specs.Prelude.{ℕ, ◌+◌, ◌*◌, ◌-◌, ◌%◌, Bool, List, cond, ◌&&◌, eqb, leb, slice_index}

-- The first words of a payload, of which there are 13; those that it doesn't have are 0.
abbrev pub Words : Type 0
Words = List ℕ

-- The u64 of two words.
abbrev pub long_of : ℕ → ℕ → ℕ
long_of low high = low + high * 4294967296

-- How many words a payload has before its arrays; for an unknown kind 14, which is more than any kind has.
unfoldable pub words_of : ℕ → ℕ
words_of kind =
    cond (eqb kind 1) 4
    (cond (eqb kind 2) 3
    (cond (eqb kind 3) 13
    (cond (eqb kind 4) 0
    (cond (eqb kind 5) 13
    (cond (eqb kind 6) 2
    (cond (eqb kind 7) 2
    (cond (eqb kind 8) 0
    (cond (eqb kind 9) 2
    (cond (eqb kind 10) 5
    (cond (eqb kind 11) 12
    14))))))))))

-- How many zero bytes pad n bytes to a multiple of 4.
abbrev pub padding_of : ℕ → ℕ
padding_of n = (4 - n % 4) % 4

-- The length in bytes of a table's payload with these counts.
abbrev pub table_size : ℕ → ℕ → ℕ → ℕ
table_size longs bytes floats = 16 + longs * 8 + bytes + padding_of bytes + floats * 4

-- The length in bytes of a frame's payload with these counts.
abbrev pub frame_size : ℕ → ℕ → ℕ → ℕ
frame_size centroids order passes = 12 + centroids * 4 + order * 4 + passes * 4

-- The length in bytes of a payload of this kind that begins with the words w.
unfoldable pub size_of : ℕ → Words → ℕ
size_of kind w =
    cond (eqb kind 1) (table_size (slice_index w 1) (slice_index w 2) (slice_index w 3))
    (cond (eqb kind 2) (frame_size (slice_index w 0) (slice_index w 1) (slice_index w 2))
    (words_of kind * 4))

-- Whether the counts a, b and c are at most x, y and z.
abbrev pub three_fit : ℕ → ℕ → ℕ → ℕ → ℕ → ℕ → Bool
three_fit a b c x y z = leb a x && (leb b y && leb c z)

-- Whether the kind is known and the arrays have room for the counts in the words.
unfoldable pub room_for : ℕ → Words → Bool
room_for kind w =
    cond (eqb kind 1) (three_fit (slice_index w 1) (slice_index w 2) (slice_index w 3) 2560 1500000 200000)
    (cond (eqb kind 2) (three_fit (slice_index w 0) (slice_index w 1) (slice_index w 2) 640 320 900)
    (leb (words_of kind) 13))
