-- What callers rest on, as statements. The files of proofs/ prove each one under the name given in its comment. Definitions only.
use Rattle.std.specs.Prelude.{ℕ, ◌^◌, ◌<◌, ◌≤◌, List, slice_index, Float}
use Rattle.numeric.specs.Ratios.{Ratios}
use Rattle.pattern.specs.Key.{key_of, hash_of, Parts}

-- For ratios that rise within [0, 1], no key part is above bins. Proved as `key_parts`.
abbrev pub KeyParts : Type 0
KeyParts = (r : List Float) (B : ℕ) → Ratios r → 0 < B → B ≤ 4096 → Parts (key_of r B) B

-- For ratios that rise within [0, 1], no key part is below the one before it. Proved as `key_rises`.
abbrev pub KeyRises : Type 0
KeyRises = (r : List Float) (B : ℕ) → Ratios r → 0 < B → B ≤ 4096
    → (slice_index (key_of r B) 0 ≤ slice_index (key_of r B) 1)
    × (slice_index (key_of r B) 1 ≤ slice_index (key_of r B) 2)
    × (slice_index (key_of r B) 2 ≤ slice_index (key_of r B) 3)
    × (slice_index (key_of r B) 3 ≤ slice_index (key_of r B) 4)

-- A hash is below 2 ^ 62, so its sum never wraps. Proved as `hash_below`.
abbrev pub HashBelow : Type 0
HashBelow = (k : List ℕ) (B : ℕ) → Parts k B → hash_of k B < 2 ^ 62
