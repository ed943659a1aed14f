-- "Four positions in the kept list after its cut, strictly rising, listed by sum and within a sum lexicographically." Definitions only.
use Rattle.std.specs.Prelude.{◌≡◌, ◌⊎◌, ℕ, zero, suc, ◌+◌, ◌*◌, ◌<◌, List, [], ◌∷◌, Bool, cond, ◌&&◌, eqb}
use Rattle.combinations.specs.Lists.{each, upto}
pub use Rattle.combinations.specs.declared.Combination.{Combination}

-- The combination at these four positions.
abbrev pub four : ℕ → ℕ → ℕ → ℕ → Combination
four a b c d = record { a = a; b = b; c = c; d = d }

-- The positions of q rise strictly and are below n.
pub record Rising (n : ℕ) (q : Combination) : Type 0 where
  pub ab : q.a < q.b
  pub bc : q.b < q.c
  pub cd : q.c < q.d
  pub dn : q.d < n

-- The sum of a combination's positions.
unfoldable pub sum : Combination → ℕ
sum q = q.a + q.b + q.c + q.d

-- The combination q is lexicographically before p: where they first differ, q has the smaller position.
abbrev pub Before : Combination → Combination → Type 0
Before q p =
    (q.a < p.a)
    ⊎ (((q.a ≡ p.a) × (q.b < p.b))
    ⊎ (((q.a ≡ p.a) × (q.b ≡ p.b) × (q.c < p.c))
    ⊎ ((q.a ≡ p.a) × (q.b ≡ p.b) × (q.c ≡ p.c) × (q.d < p.d))))

-- The combination q comes before p: by sum, and within a sum lexicographically.
abbrev pub Precedes : Combination → Combination → Type 0
Precedes q p = (sum q < sum p) ⊎ ((sum q ≡ sum p) × Before q p)

-- All combinations a < b < c < d < n with the sum s, lexicographically.
unfoldable pub combinations_of_sum : ℕ → ℕ → List Combination
combinations_of_sum n s =
    each (upto 0 n) λ a.
    each (upto (suc a) n) λ b.
    each (upto (suc b) n) λ c.
    each (upto (suc c) n) λ d.
    cond (eqb (a + b + c + d) s) (record { a = a; b = b; c = c; d = d } ∷ []) []

-- All combinations below n, by sum. Four positions below n have a sum below 4 n.
unfoldable pub combination_list : ℕ → List Combination
combination_list n = each (upto 0 (4 * n)) (combinations_of_sum n)

-- Whether two combinations have the same four positions.
unfoldable pub same_combination : Combination → Combination → Bool
same_combination q p = eqb q.a p.a && (eqb q.b p.b && (eqb q.c p.c && eqb q.d p.d))

-- How many times a combination is in a list.
unfoldable pub times : Combination → List Combination → ℕ
times q [] = 0
times q (p ∷ ps) = cond (same_combination q p) (suc (times q ps)) (times q ps)

-- The number of ways to choose k of n.
unfoldable pub choose : ℕ → ℕ → ℕ
choose zero n = 1
choose (suc k) zero = 0
choose (suc k) (suc n) = choose k n + choose (suc k) n
