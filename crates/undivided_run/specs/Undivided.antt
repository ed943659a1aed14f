-- Document 01, "One search" and "The undivided run". Assumes nothing.
use Rattle.std.specs.Prelude.{ℕ, zero, suc, ◌+◌, ◌*◌, ◌%◌, List, [], ◌∷◌, ◌++◌, Bool, true, false, cond, ◌&&◌, ◌||◌, leb, ltb}
use Rattle.std.specs.Prelude.{Option, None, Some}
use Rattle.combinations.specs.declared.Combination.{Combination}
use Rattle.combinations.specs.Combinations.{combination_list}
use Rattle.combinations.specs.Lists.{each, upto}
pub use Rattle.undivided_run.specs.declared.state.Status.{Status}
pub use Rattle.undivided_run.specs.declared.state.Status.TheVariants.{TooFew, NoMatch, Timeout}
-- A cap is given with its value or absent.
pub use Rattle.std.specs.Prelude.{None, Some}
-- One read is one probe: it is known by its pass, combination, key number and probe number.
pub use Rattle.undivided_run.specs.declared.state.Position.{Position as Read}

-- The cap: the most combinations that a run may try, where there is such a limit.
abbrev pub Cap : Type 0
Cap = Option ℕ

-- A cap already reached by the combinations tried so far.
unfoldable pub reached : Cap → ℕ → Bool
reached None tried = false
reached (Some most) tried = leb most tried

-- What the run is fed: data, settings and table. E is a table entry, C a candidate.
pub record Feed (E C : Type 0) : Type 0 where
  -- The number of passes.
  pub passes : ℕ
  -- How many centroids the pass with this number keeps.
  pub kept : ℕ → ℕ
  -- How many keys this combination of this pass has.
  pub keys : ℕ → Combination → ℕ
  -- The home slot of the key with this number, of this combination of this pass.
  pub home : ℕ → Combination → ℕ → ℕ
  -- The table's slot count.
  pub slots : ℕ
  -- the pattern count
  pub patterns : ℕ
  -- the entry of a slot, where it is filled
  pub entry : ℕ → Option E
  -- The candidate that this entry gives at this read, where it passes the tests.
  pub test : Read → E → Option C
  -- Question 9 of this entry.
  pub valid : E → Bool

-- A run: its reads in order, and the status that ends it.
pub record Run : Type 0 where
  pub reads : List Read
  pub status : Status

-- The run that makes no read and ends with this status.
unfoldable pub ended : Status → Run
ended s = record { reads = []; status = s }

-- The run that makes these reads first, and then those of `run`.
infixr 60 ◌before◌
unfoldable pub ◌before◌ : List Read → Run → Run
rs before run = record { reads = rs ++ run.reads; status = run.status }

-- Whether a number is 0.
unfoldable pub is_zero : ℕ → Bool
is_zero zero = true
is_zero (suc n) = false

-- Whether an option has a value.
unfoldable pub is_some : {A : Type 0} → Option A → Bool
is_some None = false
is_some (Some x) = true

-- b where the option is none, and f of its value where it has one.
unfoldable pub cases : {A B : Type 0} → Option A → B → (A → B) → B
cases None b f = b
cases (Some x) b f = f x

-- Whether this read is the first of its combination: "A combination is tried, and counts, when its first slot is read."
unfoldable pub starts : Read → Bool
starts r = is_zero r.probe && is_zero r.key

module _ {E C : Type 0} (F : Feed E C) where
  -- The slot of this read: "Probe c of a key reads slot (home + c·c) modulo the slot count".
  unfoldable pub slot_of : Read → ℕ
  slot_of r = (F.home r.pass r.four r.key + r.probe * r.probe) % F.slots

  -- Whether the slot of this read is filled.
  unfoldable pub filled : Read → Bool
  filled r = is_some (F.entry (slot_of r))

  -- The candidate of this read: it gives one exactly when its slot is filled and the entry passes the tests.
  unfoldable pub gives : Read → Option C
  gives r = cases (F.entry (slot_of r)) None λ e. F.test r e

  -- The reads of key k of combination q of pass i from probe c on, at most `left` of them: "the first empty slot ends the chain".
  unfoldable pub chain : ℕ → Combination → ℕ → ℕ → ℕ → List Read
  chain i q k zero c = []
  chain i q k (suc left) c =
      let r : Read = record { pass = i; four = q; key = k; probe = c } in
      r ∷ cond (filled r) (chain i q k left (suc c)) []

  -- The reads of combination q of pass i: its keys in order, each along its chain, with probes from 0 to at most slots − 1.
  unfoldable pub reads_of : ℕ → Combination → List Read
  reads_of i q = each (upto 0 (F.keys i q)) λ k. chain i q k F.slots 0

  module _ (cap : Cap) where
    -- "Before each pass and each combination, a cap already reached ends it with Timeout."; else this run follows.
    unfoldable pub checked : ℕ → Run → Run
    checked tried run = cond (reached cap tried) (ended Timeout) run

    -- The run through these combinations of pass i, `tried` combinations being tried before them. `rest` is the run after the pass, from the number
    -- tried by then.
    unfoldable pub combinations : ℕ → List Combination → (ℕ → Run) → ℕ → Run
    combinations i [] rest tried = rest tried
    combinations i (q ∷ qs) rest tried =
        checked tried (reads_of i q before combinations i qs rest (suc tried))

    -- The run through the `left` passes from pass i on, `tried` combinations being tried before them. `status` is that of the pass before.
    unfoldable pub passes_from : ℕ → ℕ → Status → ℕ → Run
    passes_from zero i status tried = ended status
    passes_from (suc left) i status tried =
        checked tried
        (cond (ltb (F.kept i) 4)
        (passes_from left (suc i) TooFew tried)
        (cond (is_zero F.slots || is_zero F.patterns)
        (passes_from left (suc i) NoMatch tried)
        (combinations i (combination_list (F.kept i)) (passes_from left (suc i) NoMatch) tried)))

    -- The undivided run: all passes in order.
    unfoldable pub undivided : Run
    undivided = passes_from F.passes 0 NoMatch 0
