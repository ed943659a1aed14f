-- The list of the combinations below n is in order: by sum, and within a sum lexicographically, each before every later one. Assumes nothing.
use mathlib.Core.Path.{◌≡◌, refl, sym, ◌∙◌}
use mathlib.Core.Logic.{inl, inr}
use Prim.Native.Nat.{ℕ, suc, ◌+◌, ◌*◌}
use native.Mathlib.Omega.{arith}
use mathlib.Core.List.{List, [], ◌∷◌}
use mathlib.Core.Bool.{Bool, true, false, cond}
use lib.Dec.{eqb}
use Rattle.combinations.specs.Lists.{each, upto, Ordered}
use Rattle.combinations.specs.Combinations.{Combination, four, Precedes, sum, combinations_of_sum, combination_list}
use Rattle.combinations.specs.Claims.{CombinationsOrdered, PrecedesAnother}
use Rattle.combinations.proofs.Lists.{all_upto, ordered_upto}
use Rattle.combinations.proofs.EachCombination.{all_if, all_combinations_of_sum}

-- The combinations with the sum s whose first position, or whose first two, three or four positions, are the given ones.
abbrev First : ℕ → ℕ → Combination → Type 0
First s a q = (sum q ≡ s) × (q.a ≡ a)

abbrev Second : ℕ → ℕ → ℕ → Combination → Type 0
Second s a b q = (sum q ≡ s) × (q.a ≡ a) × (q.b ≡ b)

abbrev Third : ℕ → ℕ → ℕ → ℕ → Combination → Type 0
Third s a b c q = (sum q ≡ s) × (q.a ≡ a) × (q.b ≡ b) × (q.c ≡ c)

abbrev Fourth : ℕ → ℕ → ℕ → ℕ → ℕ → Combination → Type 0
Fourth s a b c d q = (sum q ≡ s) × (q.a ≡ a) × (q.b ≡ b) × (q.c ≡ c) × (q.d ≡ d)

-- A list of one combination, or of none, is ordered.
ordered_if : (b : Bool) (q : Combination) → Ordered Precedes (cond b (q ∷ []) [])
ordered_if true q = (tt, tt)
ordered_if false q = tt

-- The order of the list within a sum, shown from the last position to the first.
module _ (n s : ℕ) where
  abbrev one : ℕ → ℕ → ℕ → ℕ → List Combination
  one a b c d = cond (eqb (a + b + c + d) s) (four a b c d ∷ []) []

  abbrev fourths : ℕ → ℕ → ℕ → List Combination
  fourths a b c = each (upto (suc c) n) (one a b c)

  abbrev thirds : ℕ → ℕ → List Combination
  thirds a b = each (upto (suc b) n) (fourths a b)

  abbrev seconds : ℕ → List Combination
  seconds a = each (upto (suc a) n) (thirds a)

  fourths_ordered : (a b c : ℕ) → Ordered Precedes (fourths a b c)
  unfolding sum
  fourths_ordered a b c =
      ordered_upto Precedes (Fourth s a b c) (suc c) n (one a b c)
      (λ d. all_if (Fourth s a b c d) (a + b + c + d) s (four a b c d) λ e. (e, refl, refl, refl, refl))
      (λ d. ordered_if (eqb (a + b + c + d) s) (four a b c d))
      (λ i j q p l x y. inr (x.0 ∙ sym y.0, inr (inr (inr (x.1 ∙ sym y.1, x.2 ∙ sym y.2, x.3 ∙ sym y.3, omega (arith, x.4, y.4))))))

  thirds_ordered : (a b : ℕ) → Ordered Precedes (thirds a b)
  unfolding sum
  thirds_ordered a b =
      ordered_upto Precedes (Third s a b) (suc b) n (fourths a b)
      (λ c. all_upto (Third s a b c) (suc c) n (one a b c) λ d _ _. all_if (Third s a b c) (a + b + c + d) s (four a b c d) λ e. (e, refl, refl, refl))
      (λ c. fourths_ordered a b c)
      (λ i j q p l x y. inr (x.0 ∙ sym y.0, inr (inr (inl (x.1 ∙ sym y.1, x.2 ∙ sym y.2, omega (arith, x.3, y.3))))))

  seconds_ordered : (a : ℕ) → Ordered Precedes (seconds a)
  unfolding sum
  seconds_ordered a =
      ordered_upto Precedes (Second s a) (suc a) n (thirds a)
      (λ b. all_upto (Second s a b) (suc b) n (fourths a b) λ c _ _. all_upto (Second s a b) (suc c) n (one a b c) λ d _ _. all_if (Second s a b) (a + b + c + d) s (four a b c d) λ e. (e, refl, refl))
      (λ b. thirds_ordered a b)
      (λ i j q p l x y. inr (x.0 ∙ sym y.0, inr (inl (x.1 ∙ sym y.1, omega (arith, x.2, y.2)))))

  sum_ordered : Ordered Precedes (combinations_of_sum n s)
  unfolding combinations_of_sum sum
  sum_ordered =
      ordered_upto Precedes (First s) 0 n seconds
      (λ a. all_upto (First s a) (suc a) n (thirds a) λ b _ _. all_upto (First s a) (suc b) n (fourths a b) λ c _ _. all_upto (First s a) (suc c) n (one a b c) λ d _ _. all_if (First s a) (a + b + c + d) s (four a b c d) λ e. (e, refl))
      (λ a. seconds_ordered a)
      (λ i j q p l x y. inr (x.0 ∙ sym y.0, inl (omega (arith, x.1, y.1))))

-- The order of the list over all sums.
pub combinations_ordered : CombinationsOrdered
unfolding combination_list
combinations_ordered n =
    ordered_upto Precedes (λ s q. sum q ≡ s) 0 (4 * n) (combinations_of_sum n)
    (λ s. all_combinations_of_sum (λ q. sum q ≡ s) n s λ q _ e. e)
    (λ s. sum_ordered n s)
    (λ i j q p l x y. inl (omega arith))

-- No combination precedes itself.
pub precedes_another : PrecedesAnother
precedes_another q (inl h) = omega arith
precedes_another q (inr (_, inl h)) = omega arith
precedes_another q (inr (_, inr (inl h))) = omega (arith, h.1)
precedes_another q (inr (_, inr (inr (inl h)))) = omega (arith, h.2)
precedes_another q (inr (_, inr (inr (inr h)))) = omega (arith, h.3)
