-- Question 8: "pass, combination, key and probe numbers that exist here (none do with 0 slots or a pattern count of 0; the cap isn't considered)".
-- Also the limits that the questions set on what exists, as statements about any feed. Definitions only.
use Rattle.std.specs.Prelude.{◌≡◌, ℕ, ◌≤◌, ◌<◌, true}
use Rattle.combinations.specs.declared.Combination.{Combination}
use Rattle.combinations.specs.Combinations.{Rising}
use Rattle.undivided_run.specs.Undivided.{Read, Feed, cases}
use Rattle.undivided_run.specs.Step.{Stage, new, at, done}

-- Combination q of pass i exists here: the pass exists, the four positions rise within its kept list, and the table has a slot and a pattern.
pub record CombinationExists {E C : Type 0} (F : Feed E C) (i : ℕ) (q : Combination) : Type 0 where
  pub pass : i < F.passes
  -- The four positions rise within the kept list of the pass.
  pub rising : Rising (F.kept i) q
  -- The table has a slot.
  pub slots : 0 < F.slots
  pub table : 0 < F.patterns

-- The pass, combination, key and probe numbers of the read r exist here.
pub record ReadExists {E C : Type 0} (F : Feed E C) (r : Read) : Type 0 where
  pub four : CombinationExists F r.pass r.four
  pub key : r.key < F.keys r.pass r.four
  pub probe : r.probe < F.slots

-- Each combination that exists has a key, so it is tried.
abbrev pub Keyed : {E C : Type 0} → Feed E C → Type 0
Keyed F = (i : ℕ) (q : Combination) → CombinationExists F i q → 0 < F.keys i q

-- The limits that questions 4, 5 and 6 set on the checking stars, the passes and the slots, and that follow for the keys:
-- "keys number at most 4 a part, 1,024 in all".
pub record Within {E C : Type 0} (F : Feed E C) : Type 0 where
  pub passes : F.passes ≤ 256
  pub kept : (i : ℕ) → i < F.passes → F.kept i ≤ 64
  pub keys : (i : ℕ) (q : Combination) → CombinationExists F i q → F.keys i q ≤ 1024
  pub slots : F.slots ≤ 16777216

-- What the opening check makes sure of: question 9 is answered yes for the entry of every filled slot.
abbrev pub Opened : {E C : Type 0} → Feed E C → Type 0
Opened F = (x : ℕ) → cases (F.entry x) true F.valid ≡ true

-- Question 8 is answered yes for a state with this phase, n patterns and m reads: it is fresh and counts nothing, or it is ended or at numbers
-- that exist here, with at most 162,656,256 patterns and 2^62 reads.
abbrev pub Question8Holds : {E C : Type 0} → Feed E C → Stage → ℕ → ℕ → Type 0
Question8Holds F new n m = (n ≡ 0) × (m ≡ 0)
Question8Holds F (at r) n m = ReadExists F r × (n ≤ 162656256) × (m ≤ 4611686018427387904)
Question8Holds F (done s) n m = (n ≤ 162656256) × (m ≤ 4611686018427387904)
