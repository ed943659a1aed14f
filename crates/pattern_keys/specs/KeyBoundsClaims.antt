-- What callers rest on, as statements. The files of proofs/ prove each one under the name given in its comment. Definitions only.
use Rattle.std.specs.Prelude.{ℕ, ◌≤◌, ◌<◌, ◌≡◌, List, [], length, get_or, Float}
use Rattle.numeric.specs.KeyPart.{NarrowTolerance}
use Rattle.numeric.specs.Ratios.{Ratios}
use Rattle.pattern.specs.Key.{key_of}
use Rattle.pattern_keys.specs.Listed.{Has}
use Rattle.pattern_keys.specs.KeyBounds.{keys_for}

-- There is at least one key, and there are at most 1,024. Proved as `keys_count`.
abbrev pub KeysCount : Type 0
KeysCount = (r : List Float) (e : Float) (B : ℕ) → Ratios r → NarrowTolerance e B → (0 < length (keys_for r e B)) × (length (keys_for r e B) ≤ 1024)

-- The image key is in the list. Proved as `image_listed`.
abbrev pub ImageListed : Type 0
ImageListed = (r : List Float) (e : Float) (B : ℕ) → Ratios r → NarrowTolerance e B → Has (key_of r B) (keys_for r e B)

-- The image key is the first of the list. Proved as `image_first`.
abbrev pub ImageFirst : Type 0
ImageFirst = (r : List Float) (e : Float) (B : ℕ) → Ratios r → NarrowTolerance e B → get_or (keys_for r e B) 0 [] ≡ key_of r B
