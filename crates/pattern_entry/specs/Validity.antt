-- Question 9 for a packed entry. Definitions only.
use Rattle.std.specs.Prelude.{ℕ, Bool, ◌&&◌, List, eqb, length, Float}
use Rattle.pattern_entry.specs.Stars.{star_valid}
use Rattle.pattern_entry.specs.Entry.{word_at}

-- Question 9 for an entry's bytes: there are 22 of them, and each of the four stars is valid. An empty part is not valid.
unfoldable pub entry_valid : List Float → List ℕ → Bool
entry_valid stars e =
    eqb (length e) 22
    && (star_valid stars (word_at e 0) && (star_valid stars (word_at e 4) && (star_valid stars (word_at e 8) && star_valid stars (word_at e 12))))
