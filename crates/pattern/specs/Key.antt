-- The key of five ratios, its hash, its home slot and its mark. Definitions only.
use Rattle.std.specs.Prelude.{ℕ, ◌+◌, ◌*◌, ◌%◌, ◌^◌, ◌≤◌, List, [], ◌∷◌, get_or, slice_index, slice_index_or, Float}
use Rattle.std.specs.Float.{nan}
use Rattle.numeric.specs.KeyPart.{part_of}

-- "Key part i is ratio i times bins, cut to a whole number"
unfoldable pub key_of : List Float → ℕ → List ℕ
key_of r B =
    part_of (slice_index_or r 0 nan) B ∷ part_of (slice_index_or r 1 nan) B ∷ part_of (slice_index_or r 2 nan) B ∷ part_of (slice_index_or r 3 nan) B ∷ part_of (slice_index_or r 4 nan) B ∷ []

-- "The key's hash is the sum of part i times bins^i, i from 0."
unfoldable pub hash_of : List ℕ → ℕ → ℕ
hash_of k B = slice_index k 0 * B ^ 0 + slice_index k 1 * B ^ 1 + slice_index k 2 * B ^ 2 + slice_index k 3 * B ^ 3 + slice_index k 4 * B ^ 4

-- "The home slot is the hash multiplied by 2654435761 modulo 2^64, then the remainder by the slot count."
unfoldable pub home_of : ℕ → ℕ → ℕ
home_of hash slots = hash * 2654435761 % 2 ^ 64 % slots

-- "The mark is the hash's low 16 bits."
unfoldable pub mark_of : ℕ → ℕ
mark_of hash = hash % 2 ^ 16

-- The parts of a key: none is above bins, and bins is within question 4's limit.
pub record Parts (k : List ℕ) (B : ℕ) : Type 0 where
  pub few : B ≤ 4096
  pub first : get_or k 0 0 ≤ B
  pub second : get_or k 1 0 ≤ B
  pub third : get_or k 2 0 ≤ B
  pub fourth : get_or k 3 0 ≤ B
  pub fifth : get_or k 4 0 ≤ B
