-- The ranges of the key parts of five ratios, and the list of keys that a search takes. Definitions only.
use Rattle.std.specs.Prelude.{ℕ, List, [], ◌∷◌, get_or, Float}
use Rattle.std.specs.Float.{nan}
use Rattle.numeric.specs.KeyPart.{low_of, high_of}
use Rattle.pattern.specs.Key.{key_of}
use Rattle.pattern_keys.specs.Keys.{keys_of}

-- What f gives for each of five ratios.
abbrev pub five : (Float → ℕ) → List Float → List ℕ
five f r = f (get_or r 0 nan) ∷ f (get_or r 1 nan) ∷ f (get_or r 2 nan) ∷ f (get_or r 3 nan) ∷ f (get_or r 4 nan) ∷ []

-- "Keys run from (ratio - e)·bins, not below 0,"
unfoldable pub lower_of : List Float → Float → ℕ → List ℕ
lower_of r e B = five (λ (x : Float). low_of x e B) r

-- "to (ratio + e)·bins, not above bins, both cut;"
unfoldable pub upper_of : List Float → Float → ℕ → List ℕ
upper_of r e B = five (λ (x : Float). high_of x e B) r

-- The keys of five ratios, in order. The image key is the key of the ratios themselves.
unfoldable pub keys_for : List Float → Float → ℕ → List (List ℕ)
keys_for r e B = keys_of (key_of r B) (lower_of r e B) (upper_of r e B)
