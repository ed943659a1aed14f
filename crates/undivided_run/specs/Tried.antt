-- The combinations that a run tries, the order of caps, and when one list begins with another. Definitions only.
use Rattle.std.specs.Prelude.{◌≡◌, ℕ, zero, suc, ◌≤◌, List, [], ◌∷◌, ◌++◌, map, cond, ◌||◌, ltb, take}
use Rattle.combinations.specs.declared.Combination.{Combination}
use Rattle.combinations.specs.Combinations.{combination_list}
use Rattle.undivided_run.specs.Undivided.{Cap}
use Rattle.std.specs.Prelude.{None, Some}
use Rattle.undivided_run.specs.declared.state.Position.{Position as Read}
use Rattle.undivided_run.specs.Undivided.{Feed, is_zero, starts}

-- The combinations tried in these reads, each with its pass, in order.
unfoldable pub tried_in : List Read → List (ℕ × Combination)
tried_in [] = []
tried_in (r ∷ rs) = cond (starts r) ((r.pass, r.four) ∷ tried_in rs) (tried_in rs)

-- As many items of a list, from its start, as a cap lets through.
unfoldable pub capped : {A : Type 0} → Cap → List A → List A
capped None xs = xs
capped (Some m) xs = take m xs

module _ {E C : Type 0} (F : Feed E C) where
  -- The combinations of the `more` passes from pass i on, each with its pass. A pass with fewer than 4 kept, no slot or no pattern has none.
  unfoldable pub combinations_from : ℕ → ℕ → List (ℕ × Combination)
  combinations_from zero i = []
  combinations_from (suc more) i =
      cond (ltb (F.kept i) 4 || (is_zero F.slots || is_zero F.patterns))
      (combinations_from more (suc i))
      (map (λ q. (i, q)) (combination_list (F.kept i)) ++ combinations_from more (suc i))

  -- The combinations of all passes: for each pass every four of its kept centroids, by sum of positions and then lexicographically.
  unfoldable pub all_combinations : List (ℕ × Combination)
  all_combinations = combinations_from F.passes 0

-- The second list begins with the first.
abbrev pub Begins : {A : Type 0} → List A → List A → Type 0
Begins xs ys = (zs : List _) × (ys ≡ xs ++ zs)

-- The first cap is not higher than the second. "An absent cap is the highest."
abbrev pub NoHigher : Cap → Cap → Type 0
NoHigher None None = Unit {0}
NoHigher None (Some n) = ⊥
NoHigher (Some m) None = Unit {0}
NoHigher (Some m) (Some n) = m ≤ n
