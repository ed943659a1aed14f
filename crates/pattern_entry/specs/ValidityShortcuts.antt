-- A shorter way to question 9: where every star of the slice is valid, an entry's indices decide. It is proved equal to question 9 in
-- proofs/Indices.antt. Definitions only.
use Rattle.std.specs.Prelude.{ℕ, Bool, ◌&&◌, List, ltb}
use Rattle.pattern_entry.specs.Entry.{word_at}

-- Whether the four star indices of an entry's bytes are below n.
unfoldable pub indices_below : ℕ → List ℕ → Bool
indices_below n e = ltb (word_at e 0) n && (ltb (word_at e 4) n && (ltb (word_at e 8) n && ltb (word_at e 12) n))
