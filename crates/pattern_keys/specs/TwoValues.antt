-- Tests for ranges of at most two values. Definitions only.
use Rattle.std.specs.Prelude.{ℕ, ◌+◌, Bool, ◌&&◌, List, leb, get_or}

-- Whether a range has at most two values.
abbrev pub pair_of : ℕ → ℕ → Bool
pair_of lo hi = leb hi (lo + 1)

-- Whether the range of every part has at most two values.
unfoldable pub two_at_most : List ℕ → List ℕ → Bool
two_at_most lo hi = pair_of (get_or lo 0 0) (get_or hi 0 0) && (pair_of (get_or lo 1 0) (get_or hi 1 0) && (pair_of (get_or lo 2 0) (get_or hi 2 0) && (pair_of (get_or lo 3 0) (get_or hi 3 0) && pair_of (get_or lo 4 0) (get_or hi 4 0))))
