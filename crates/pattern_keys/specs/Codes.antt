-- A key in ranges of at most two values a part, as a code of five bits, with part 0 as the highest bit. A bit is 0 where the part is at its lower
-- end and 1 where the part is one above it. Definitions only.
use Rattle.std.specs.Prelude.{ℕ, ◌+◌, ◌-◌, ◌*◌, ◌/◌, ◌%◌, ◌^◌, ◌≤◌, Bool, cond, List, [], ◌∷◌, eqb, get_or}
use Rattle.pattern.specs.Key.{Parts}

-- The key of a code, for ranges with the lower ends lo.
unfoldable pub key_of_code : List ℕ → ℕ → List ℕ
key_of_code lo x =
    (get_or lo 0 0 + x / 16 % 2) ∷ (get_or lo 1 0 + x / 8 % 2) ∷ (get_or lo 2 0 + x / 4 % 2) ∷ (get_or lo 3 0 + x / 2 % 2) ∷ (get_or lo 4 0 + x % 2) ∷ []

-- The code of a key, for ranges with the lower ends lo.
unfoldable pub code_of : List ℕ → List ℕ → ℕ
code_of c lo =
    (get_or c 0 0 - get_or lo 0 0) * 16 + (get_or c 1 0 - get_or lo 1 0) * 8 + (get_or c 2 0 - get_or lo 2 0) * 4 + (get_or c 3 0 - get_or lo 3 0) * 2 + (get_or c 4 0 - get_or lo 4 0)

-- Whether the code x is in the set v, a number with one bit for each code.
abbrev pub has : ℕ → ℕ → Bool
has v x = eqb (v / 2 ^ x % 2) 1

-- The values that the array a has for those codes of a list that are in the set v.
unfoldable pub chosen : List ℕ → ℕ → List ℕ → List ℕ
chosen a v [] = []
chosen a v (x ∷ l) = cond (has v x) (get_or a x 0 ∷ chosen a v l) (chosen a v l)

-- Each part has at most two values.
pub record Two (lo hi : List ℕ) : Type 0 where
  pub first : get_or hi 0 0 ≤ get_or lo 0 0 + 1
  pub second : get_or hi 1 0 ≤ get_or lo 1 0 + 1
  pub third : get_or hi 2 0 ≤ get_or lo 2 0 + 1
  pub fourth : get_or hi 3 0 ≤ get_or lo 3 0 + 1
  pub fifth : get_or hi 4 0 ≤ get_or lo 4 0 + 1

-- Part i of c lies in its range.
abbrev pub Within : ℕ → List ℕ → List ℕ → List ℕ → Type 0
Within i c lo hi = (get_or lo i 0 ≤ get_or c i 0) × (get_or c i 0 ≤ get_or hi i 0)

-- The key c lies in ranges of at most two values a part, whose lower ends never fall and are parts for B bins.
pub record Pairs (c lo hi : List ℕ) (B : ℕ) : Type 0 where
  pub two : Two lo hi
  pub first : Within 0 c lo hi
  pub second : Within 1 c lo hi
  pub third : Within 2 c lo hi
  pub fourth : Within 3 c lo hi
  pub fifth : Within 4 c lo hi
  pub rises : (get_or lo 0 0 ≤ get_or lo 1 0) × (get_or lo 1 0 ≤ get_or lo 2 0) × (get_or lo 2 0 ≤ get_or lo 3 0) × (get_or lo 3 0 ≤ get_or lo 4 0)
  pub parts : Parts lo B
