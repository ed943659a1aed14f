-- What callers rest on, as statements. The files of proofs/ prove each one under the name given in its comment. Definitions only.
use Rattle.std.specs.Prelude.{ℕ, ◌≡◌, List}
use Rattle.pattern_keys.specs.Keys.{keys_of}
use Rattle.pattern_keys.specs.Listed.{Has, Listed, Precedes, Ordered}

-- Every key in the ranges whose parts never fall is in the list. Proved as `keys_all`.
abbrev pub KeysAll : Type 0
KeysAll = (c lo hi k : List ℕ) → Listed lo hi k → Has k (keys_of c lo hi)

-- No other key is in the list. Proved as `keys_only`.
abbrev pub KeysOnly : Type 0
KeysOnly = (c lo hi k : List ℕ) → Has k (keys_of c lo hi) → Listed lo hi k

-- "They are taken by squared distance to the image key, then lexicographically.": each key comes before every later one, so none comes twice.
-- Proved as `keys_ordered`.
abbrev pub KeysOrdered : Type 0
KeysOrdered = (c lo hi : List ℕ) → Ordered (Precedes c) (keys_of c lo hi)

-- No key comes before itself. Proved as `precedes_another`.
abbrev pub PrecedesAnother : Type 0
PrecedesAnother = (c k : List ℕ) → Precedes c k k → ⊥

-- So the list is the only one in that order with just those keys. Proved as `keys_unique`.
abbrev pub KeysUnique : Type 0
KeysUnique = (c lo hi : List ℕ) (l : List (List ℕ)) → Ordered (Precedes c) l → ((k : List ℕ) → Has k l → Listed lo hi k) → ((k : List ℕ) → Listed lo hi k → Has k l) → l ≡ keys_of c lo hi
