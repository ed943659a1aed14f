-- The four star indices of an entry by themselves, as `star_indices` reads them: the field `stars` of `entry_read`. Definitions only.
use Rattle.std.specs.Prelude.{ℕ, List, [], ◌∷◌}
use Rattle.pattern_entry.specs.Entry.{word_at, star}
use Rattle.pattern_entry.specs.declared.stars.StarIndex.{StarIndex}

-- The four star indices that the bytes hold.
abbrev pub stars_read : List ℕ → List StarIndex
stars_read e = star (word_at e 0) ∷ star (word_at e 4) ∷ star (word_at e 8) ∷ star (word_at e 12) ∷ []
