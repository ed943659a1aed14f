-- The keys that a list of codes stands for. Definitions only.
use Prim.Native.Nat.{ℕ}
use mathlib.Core.Bool.{cond}
use mathlib.Core.List.{List, [], ◌∷◌}
use Rattle.pattern_keys.specs.Codes.{key_of_code, has}

-- The keys of those codes of a list that are in the set v.
unfoldable pub keys_of_codes : List ℕ → ℕ → List ℕ → List (List ℕ)
keys_of_codes lo v [] = []
keys_of_codes lo v (x ∷ l) = cond (has v x) (key_of_code lo x ∷ keys_of_codes lo v l) (keys_of_codes lo v l)
