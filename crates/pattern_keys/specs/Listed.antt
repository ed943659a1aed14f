-- Which keys a list of keys has, and in which order. Definitions only.
use Rattle.std.specs.Prelude.{ℕ, ◌≤◌, ◌<◌, ◌≡◌, ◌⊎◌, List, [], ◌∷◌, get_or}
use Rattle.pattern_keys.specs.Keys.{squared_distance}

-- The key k is in the list.
pub data Has (k : List ℕ) : List (List ℕ) → Type 0 where
  here : (l : List (List ℕ)) → Has k (k ∷ l)
  there : (x : List ℕ) {l : List (List ℕ)} → Has k l → Has k (x ∷ l)

-- The value v lies in the range of part i.
abbrev pub Part : ℕ → ℕ → List ℕ → List ℕ → Type 0
Part i v lo hi = (get_or lo i 0 ≤ v) × (v ≤ get_or hi i 0)

-- The key k has five parts, each in its range, and none below the one before it.
pub record Listed (lo hi k : List ℕ) : Type 0 where
  pub p : ℕ
  pub q : ℕ
  pub r : ℕ
  pub s : ℕ
  pub t : ℕ
  pub is : k ≡ p ∷ q ∷ r ∷ s ∷ t ∷ []
  pub rises : (p ≤ q) × (q ≤ r) × (r ≤ s) × (s ≤ t)
  pub first : Part 0 p lo hi
  pub second : Part 1 q lo hi
  pub third : Part 2 r lo hi
  pub fourth : Part 3 s lo hi
  pub fifth : Part 4 t lo hi

-- The key k is lexicographically before m, by one of the first n parts: they differ first at part `at`, and there k has the smaller value.
pub record Before (n : ℕ) (k m : List ℕ) : Type 0 where
  pub at : ℕ
  pub early : at < n
  pub same : (i : ℕ) → i < at → get_or k i 0 ≡ get_or m i 0
  pub less : get_or k at 0 < get_or m at 0

-- The key k comes before m: by squared distance to c, then lexicographically.
abbrev pub Precedes : List ℕ → List ℕ → List ℕ → Type 0
Precedes c k m = (squared_distance c k < squared_distance c m) ⊎ ((squared_distance c k ≡ squared_distance c m) × Before 5 k m)

-- R holds between each key and every later one.
pub data Ordered (R : List ℕ → List ℕ → Type 0) : List (List ℕ) → Type 0 where
  ordered_none : Ordered R []
  ordered : {x : List ℕ} {l : List (List ℕ)} → ((y : List ℕ) → Has y l → R x y) → Ordered R l → Ordered R (x ∷ l)
