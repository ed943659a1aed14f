-- Where every star of the slice is valid, an entry is valid exactly if it has 22 bytes and its indices are inside the slice. Assumes nothing.
use Prim.Native.Nat.{ℕ}
use mathlib.Core.Path.{◌≡◌}
use mathlib.Core.Bool.{true}
use mathlib.Core.List.{List}
use borrow.Author.Tests.{eq-eqb}
use lib.ListN.{length}
use lib.Ieee.{Float}
use Rattle.pattern_entry.specs.Stars.{star_count}
use Rattle.pattern_entry.specs.StarsShortcuts.{every_star}
use Rattle.pattern_entry.proofs.StarSlice.{inside_valid}
use Rattle.pattern_entry.specs.Entry.{word_at, bytes_at}
use Rattle.pattern_entry.proofs.Bytes.{whole_at}
use Rattle.pattern_entry.specs.Validity.{entry_valid}
use Rattle.pattern_entry.specs.ValidityShortcuts.{indices_below}
use Rattle.pattern_entry.specs.ValidityClaims.{IndicesValidAt}

-- The law for an entry of 22 bytes.
pub indices_valid : (stars : List Float) → every_star stars ≡ true → (e : List ℕ) → length e ≡ 22 → indices_below (star_count stars) e ≡ entry_valid stars e
unfolding entry_valid indices_below
indices_valid stars valid e h =
    rw (eq-eqb (length e) 22 h, inside_valid stars valid (word_at e 0), inside_valid stars valid (word_at e 4), inside_valid stars valid (word_at e 8), inside_valid stars valid (word_at e 12))

-- The law for the entry at a place inside the section.
pub indices_valid_at : IndicesValidAt
indices_valid_at stars valid packed p h = indices_valid stars valid (bytes_at packed p) (whole_at packed p h)
