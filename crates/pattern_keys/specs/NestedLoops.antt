-- The keys in the ranges by nested loops over their parts, and what the functions of the loops ensure to one another. Definitions only.
use Rattle.std.specs.Prelude.{◌≡◌, ℕ, zero, suc, ◌+◌, ◌-◌, ◌<◌, List, [], ◌∷◌, length, get_or}
use Rattle.pattern.specs.Key.{hash_of}
use Rattle.pattern_keys.specs.Keys.{concat_map, part_values, squared_distance}

-- The key k with its last n parts set in every way that stays in the ranges and never falls.
unfoldable pub with_last : ℕ → List ℕ → List ℕ → List ℕ → List (List ℕ)
with_last zero lo hi k = k ∷ []
with_last (suc n) lo hi k = concat_map (with_last n lo hi) (part_values (4 - n - 1) (4 - n) (get_or lo (4 - n) 0) (get_or hi (4 - n) 0) k)

-- The arrays had the hashes and the distances of m keys. Now they have those of the keys of l behind them, r in all.
pub record Enumerated (c : List ℕ) (B : ℕ) (hash dist hash' dist' : List ℕ) (m r : ℕ) (l : List (List ℕ)) : Type 0 where
  pub count : r ≡ m + length l
  pub hash_before : (i : ℕ) → i < m → get_or hash' i 0 ≡ get_or hash i 0
  pub dist_before : (i : ℕ) → i < m → get_or dist' i 0 ≡ get_or dist i 0
  pub hash_written : (i : ℕ) → i < length l → get_or hash' (m + i) 0 ≡ hash_of (get_or l i []) B
  pub dist_of : (i : ℕ) → i < length l → get_or dist' (m + i) 0 ≡ squared_distance c (get_or l i [])
  pub wide : length hash' ≡ 1024
  pub long : length dist' ≡ 1024
