-- What the functions that list the hashes by codes ensure to one another. Definitions only.
use Rattle.std.specs.Prelude.{◌≡◌, ℕ, ◌+◌, ◌≤◌, ◌<◌, List, ◌++◌, length, take, get_or}
use Rattle.pattern.specs.Key.{hash_of}
use Rattle.pattern_keys.specs.Codes.{key_of_code}

-- The array had n values and now has r: those n, and then the list l.
pub record Put (before after : List ℕ) (n r : ℕ) (l : List ℕ) : Type 0 where
  pub count : r ≡ n + length l
  pub front : take r after ≡ take n before ++ l
  pub long : length after ≡ 1024

-- The first n values are as they were, and the n after them are the same with v added.
pub record Doubled (before after : List ℕ) (n v : ℕ) : Type 0 where
  pub same : (i : ℕ) → i < n → get_or after i 0 ≡ get_or before i 0
  pub more : (i : ℕ) → i < n → get_or after (n + i) 0 ≡ get_or before i 0 + v
  pub long : length after ≡ 32

-- There is room to copy the first n values with v added: no sum exceeds the type.
pub record Room (a : List ℕ) (n v : ℕ) : Type 0 where
  pub each : (i : ℕ) → i < n → get_or a i 0 + v < 18446744073709551616
  pub half : n ≤ 16
  pub long : length a ≡ 32

-- The first n values, all below m, are the hashes of the first n codes, for ranges with the lower ends lo and B bins.
pub record Sums (a lo : List ℕ) (B n m : ℕ) : Type 0 where
  pub each : (x : ℕ) → x < n → get_or a x 0 ≡ hash_of (key_of_code lo x) B
  pub below : (x : ℕ) → x < n → get_or a x 0 < m
  pub long : length a ≡ 32
