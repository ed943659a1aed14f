-- What is proved of the list of combinations and of the successor. The files of proofs/ prove each statement under the name given in its comment.
-- Definitions only.
use Rattle.std.specs.Prelude.{◌≡◌, ℕ, ◌≤◌, List, ◌∷◌, ◌++◌, length}
use Rattle.combinations.specs.Lists.{All, Ordered, In, Follows, first_of}
use Rattle.combinations.specs.Combinations.{Combination, Rising, Precedes, combination_list, times, choose}
use Rattle.combinations.specs.Successor.{first_combination, next_combination}

-- The positions of each listed combination rise strictly and are below n. Proved as `combinations_rise`.
abbrev pub CombinationsRise : Type 0
CombinationsRise = (n : ℕ) → All (Rising n) (combination_list n)

-- Every combination whose positions rise strictly below n is listed. Proved as `combinations_all`.
abbrev pub CombinationsAll : Type 0
CombinationsAll = (n : ℕ) (q : Combination) → Rising n q → In q (combination_list n)

-- Every such combination is listed exactly once. Proved as `combinations_once`.
abbrev pub CombinationsOnce : Type 0
CombinationsOnce = (n : ℕ) (q : Combination) → Rising n q → times q (combination_list n) ≡ 1

-- "listed by sum and within a sum lexicographically": each combination precedes every later one. Proved as `combinations_ordered`.
abbrev pub CombinationsOrdered : Type 0
CombinationsOrdered = (n : ℕ) → Ordered Precedes (combination_list n)

-- No combination precedes itself. Proved as `precedes_another`.
abbrev pub PrecedesAnother : Type 0
PrecedesAnother = (q : Combination) → Precedes q q → ⊥

-- There are n choose 4 combinations. Proved as `combinations_count`.
abbrev pub CombinationsCount : Type 0
CombinationsCount = (n : ℕ) → length (combination_list n) ≡ choose 4 n

-- There are at most 635,376 combinations for n at most 64. Proved as `combinations_64`.
abbrev pub Combinations64 : Type 0
Combinations64 = (n : ℕ) → n ≤ 64 → length (combination_list n) ≤ 635376

-- The first combination and the successor enumerate exactly the list. Proved as `enumerates_combinations`.
abbrev pub EnumeratesCombinations : Type 0
EnumeratesCombinations = (n : ℕ) → Follows (next_combination n) (first_combination n) (combination_list n)

-- So the combination that the successor gives for q is the one after q in the list. Proved as `next_is_next`.
abbrev pub NextIsNext : Type 0
NextIsNext = (n : ℕ) (before : List Combination) (q : Combination) (after : List Combination) → combination_list n ≡ before ++ q ∷ after → next_combination n q ≡ first_of after
