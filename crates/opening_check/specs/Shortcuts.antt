-- What the code computes on the way to the answers of the questions. That each leads to them is proved in proofs/OpenCheck.antt. Definitions only.
use Rattle.std.specs.Prelude.{ℕ, ◌*◌, Bool, cond, List, Float, Option, None, Some}
use Rattle.pattern_entry.specs.FirstNo.{every}
use Rattle.pattern_catalog.specs.Blocks.{ones_in}
use Rattle.pattern_entry.specs.Entry.{bytes_at}
use Rattle.pattern_entry.specs.Validity.{entry_valid}
use Rattle.pattern_entry.specs.ValidityShortcuts.{indices_below}
use Rattle.opening_check.specs.OpenCheck.{rank_right}

-- The number of ones in the first blocks, where the ranks of these blocks are right.
unfoldable pub ranks_read : List ℕ → ℕ → Option ℕ
ranks_read words blocks = cond (every blocks (rank_right words)) (Some (ones_in words 0 (blocks * 448))) None

-- Whether the first n packed entries are valid.
unfoldable pub all_valid : List ℕ → List Float → ℕ → Bool
all_valid packed stars n = every n (λ p. entry_valid stars (bytes_at packed p))

-- Whether the star indices of the first n packed entries are below count.
unfoldable pub all_below : List ℕ → ℕ → ℕ → Bool
all_below packed count n = every n (λ p. indices_below count (bytes_at packed p))
