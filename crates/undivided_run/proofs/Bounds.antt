-- Question 8's limits hold of the undivided run: it has at most 2^62 reads, and tries at most 162,656,256 combinations in any first part of
-- them. Assumes nothing.
use mathlib.Core.Path.{◌≡◌, refl, ap}
use Prim.Native.Nat.{ℕ, zero, suc, ◌+◌, ◌-◌, ◌*◌, ◌≤◌, ◌<◌}
use native.Mathlib.Omega.{arith}
use mathlib.Core.List.{List, [], ◌∷◌, ◌++◌, map}
use mathlib.Core.Bool.{Bool, true, false, cond, ◌||◌}
use lib.Dec.{ltb}
use lib.ListN.{length, take, length-append, length-take, length-map}
use Rattle.combinations.specs.declared.Combination.{Combination}
use Rattle.combinations.specs.Combinations.{combination_list}
use Rattle.combinations.specs.Lists.{each, span, upto}
use Rattle.undivided_run.specs.Undivided.{Cap}
use Rattle.std.specs.Prelude.{None, Some}
use Rattle.undivided_run.specs.declared.state.Position.{Position as Read}
use Rattle.undivided_run.specs.Undivided.{Feed, is_zero, starts, filled, chain, reads_of, undivided}
use Rattle.undivided_run.specs.Calls.{tried}
use Rattle.combinations.specs.Lists.{All}
use Rattle.combinations.proofs.Lists.{length_each}
use Rattle.combinations.proofs.Count.{combinations_64}
use Rattle.undivided_run.specs.Tried.{capped, combinations_from, all_combinations}
use Rattle.undivided_run.proofs.Closed.{reads_in, reads_closed}
use Rattle.undivided_run.proofs.Tried.{tried_length, run_tries}
use Rattle.undivided_run.specs.PositionExists.{CombinationExists, Within, Keyed}
use Rattle.undivided_run.proofs.CombinationExists.{Fit, all_fit}

all_true : {A : Type 0} (xs : List A) → All (λ _. Unit {0}) xs
all_true [] = tt
all_true (x ∷ xs) = (tt, all_true xs)

length_spans : (m lo : ℕ) → length (span lo m) ≡ m
unfolding span
length_spans zero lo = refl
length_spans (suc m) lo = ap suc (length_spans m (suc lo))

pub capped_shorter : {A : Type 0} (c : Cap) (xs : List A) → length (capped c xs) ≤ length xs
unfolding capped
capped_shorter None xs = omega arith
capped_shorter (Some m) xs = omega (arith, length-take m xs)

tried_take : (n : ℕ) (rs : List Read) → tried (take n rs) ≤ tried rs
unfolding tried
tried_take zero rs = omega arith
tried_take (suc n) [] = omega arith
tried_take (suc n) (r ∷ rs) = by (starts r) (tried_take n rs)
  where
    by : (b : Bool) → tried (take n rs) ≤ tried rs → cond b (suc (tried (take n rs))) (tried (take n rs)) ≤ cond b (suc (tried rs)) (tried rs)
    by true h = omega arith
    by false h = h

module _ {E C : Type 0} (F : Feed E C) (w : Within F) where
  pub chain_length : (i : ℕ) (q : Combination) (k m c : ℕ) → length (chain F i q k m c) ≤ m
  unfolding chain
  chain_length i q k zero c = omega arith
  chain_length i q k (suc m) c = by (filled F _) (chain_length i q k m (suc c))
    where
      by : (b : Bool) → length (chain F i q k m (suc c)) ≤ m → suc (length (cond b (chain F i q k m (suc c)) [])) ≤ suc m
      by true h = omega arith
      by false h = omega arith

  pub keys_length : (i : ℕ) (q : Combination) (n k : ℕ) → length (each (span k n) λ k. chain F i q k F.slots 0) ≤ n * 16777216
  keys_length i q n k =
      omega (arith, length_spans n k, length_each (λ _. Unit {0}) (span k n) (λ k. chain F i q k F.slots 0) 16777216 (λ k _. omega (arith, w.slots, chain_length i q k F.slots 0)) (all_true (span k n)))

  reads_length : (i : ℕ) (q : Combination) → CombinationExists F i q → length (reads_of F i q) ≤ 17179869184
  unfolding reads_of upto
  reads_length i q h = omega (arith, w.keys i q h, keys_length i q (F.keys i q - 0) 0)

  pub combination_list_kept : (i : ℕ) → i < F.passes → length (combination_list (F.kept i)) ≤ 635376
  combination_list_kept i p = combinations_64 (F.kept i) (w.kept i p)

  pub combinations_from_length : (more i : ℕ) → i + more ≤ F.passes → length (combinations_from F more i) ≤ more * 635376
  unfolding combinations_from
  combinations_from_length zero i p = omega arith
  combinations_from_length (suc more) i p = by (ltb (F.kept i) 4 || (is_zero F.slots || is_zero F.patterns)) (combinations_from_length more (suc i) (omega arith))
    where
      by : (b : Bool) → length (combinations_from F more (suc i)) ≤ more * 635376 → length (cond b (combinations_from F more (suc i)) (map (λ q. (i, q)) (combination_list (F.kept i)) ++ combinations_from F more (suc i))) ≤ suc more * 635376
      by true h = omega arith
      by false h = omega (arith, length-append (map (λ q. (i, q)) (combination_list (F.kept i))) (combinations_from F more (suc i)), length-map {B = ℕ × Combination} (combination_list (F.kept i)) (λ q. (i, q)), combination_list_kept i (omega arith))

  pub reads_in_length : (xs : List (ℕ × Combination)) → All (Fit F) xs → length (reads_in F xs) ≤ length xs * 17179869184
  reads_in_length xs h = length_each (Fit F) xs (λ x. reads_of F x.0 x.1) 17179869184 (λ x f. reads_length x.0 x.1 f) h

  module _ (cap : Cap) where
    capped_length : length (capped cap (all_combinations F)) ≤ 162656256
    unfolding all_combinations
    capped_length = omega (arith, w.passes, capped_shorter cap (all_combinations F), combinations_from_length F.passes 0 (omega arith))

    -- The undivided run has at most 2^62 reads.
    pub reads_bound : length (undivided F cap).reads ≤ 4611686018427387904
    reads_bound = rw (reads_closed F cap) (omega (arith, capped_length, reads_in_length (capped cap (all_combinations F)) (all_fit F cap)))

    -- The first n reads of the undivided run try at most 162,656,256 combinations.
    pub patterns_bound : Keyed F → (n : ℕ) → tried (take n (undivided F cap).reads) ≤ 162656256
    patterns_bound keyed n = omega (arith, tried_take n (undivided F cap).reads, tried_length (undivided F cap).reads, ap length (run_tries F keyed cap), capped_length)
