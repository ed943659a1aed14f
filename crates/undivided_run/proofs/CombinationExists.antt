-- Every combination that the run lists exists here, in the sense of question 8. Assumes nothing.
use mathlib.Core.Path.{◌≡◌, refl}
use Prim.Native.Nat.{ℕ, zero, suc, ◌+◌, ◌≤◌, ◌<◌}
use native.Mathlib.Omega.{arith}
use mathlib.Core.List.{List, [], ◌∷◌, ◌++◌, map}
use mathlib.Core.Bool.{Bool, true, false, cond, ◌||◌}
use lib.Dec.{ltb}
use Rattle.combinations.specs.declared.Combination.{Combination}
use Rattle.combinations.specs.Combinations.{Rising, combination_list}
use Rattle.combinations.specs.Lists.{All}
use Rattle.combinations.proofs.Lists.{all_append, all_take}
use Rattle.combinations.proofs.EachCombination.{combinations_rise}
use Rattle.undivided_run.specs.Undivided.{Cap}
use Rattle.std.specs.Prelude.{None, Some}
use Rattle.undivided_run.specs.Undivided.{Feed, is_zero}
use Rattle.undivided_run.specs.PositionExists.{CombinationExists}
use Rattle.undivided_run.specs.Tried.{capped, combinations_from, all_combinations}

pub no_zero : (m n : ℕ) → is_zero m || is_zero n ≡ false → (0 < m) × (0 < n)
unfolding is_zero
no_zero zero n h = absurd (let z : ◌≡◌ {A = ℕ} 0 1 = cc in omega arith)
no_zero (suc m) zero h = absurd (let z : ◌≡◌ {A = ℕ} 0 1 = cc in omega arith)
no_zero (suc m) (suc n) h = (omega arith, omega arith)

module _ {E C : Type 0} (F : Feed E C) where
  -- The combination exists in the pass that it is listed with.
  abbrev pub Fit : ℕ × Combination → Type 0
  Fit x = CombinationExists F x.0 x.1

  module _ (i : ℕ) (p : i < F.passes) (s : 0 < F.slots) (t : 0 < F.patterns) where
    pub rising_here : (qs : List Combination) → All (Rising (F.kept i)) qs → All (CombinationExists F i) qs
    rising_here [] h = tt
    rising_here (q ∷ qs) h = (record { pass = p; rising = h.0; slots = s; table = t }, rising_here qs h.1)

  pub fit_map : (i : ℕ) (qs : List Combination) → All (CombinationExists F i) qs → All Fit (map (λ q. (i, q)) qs)
  fit_map i [] h = tt
  fit_map i (q ∷ qs) h = (h.0, fit_map i qs h.1)

  -- the combinations of a pass that reads
  pub combination_list_here : (i : ℕ) → i < F.passes → is_zero F.slots || is_zero F.patterns ≡ false → All (CombinationExists F i) (combination_list (F.kept i))
  combination_list_here i p e = let z = no_zero F.slots F.patterns e in rising_here i p z.0 z.1 (combination_list (F.kept i)) (combinations_rise (F.kept i))

  pub here_passes : (more i : ℕ) → i + more ≤ F.passes → All Fit (combinations_from F more i)
  unfolding combinations_from
  here_passes zero i p = tt
  here_passes (suc more) i p = by (ltb (F.kept i) 4) (is_zero F.slots || is_zero F.patterns) refl (here_passes more (suc i) (omega arith))
    where
      by : (few off : Bool) → is_zero F.slots || is_zero F.patterns ≡ off → All Fit (combinations_from F more (suc i)) → All Fit (cond (few || off) (combinations_from F more (suc i)) (map (λ q. (i, q)) (combination_list (F.kept i)) ++ combinations_from F more (suc i)))
      by true off e h = h
      by false true e h = h
      by false false e h = all_append Fit (map (λ q. (i, q)) (combination_list (F.kept i))) _ (fit_map i (combination_list (F.kept i)) (combination_list_here i (omega arith) e)) h

  pub capped_fit : (cap : Cap) (xs : List (ℕ × Combination)) → All Fit xs → All Fit (capped cap xs)
  unfolding capped
  capped_fit None xs h = h
  capped_fit (Some m) xs h = all_take Fit m xs h

  -- All combinations that a run tries exist.
  pub all_fit : (cap : Cap) → All Fit (capped cap (all_combinations F))
  unfolding all_combinations
  all_fit cap = capped_fit cap _ (here_passes F.passes 0 (omega arith))
