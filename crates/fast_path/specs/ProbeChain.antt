-- Along a chain over reads that give nothing, as far as it goes. Definitions only.
use Rattle.std.specs.Prelude.{ℕ, zero, suc, ◌+◌, ◌*◌, ◌%◌, cond, List, ltb, Float}
use Rattle.fast_path.specs.SlotPeek.{peek_of}
use Rattle.fast_path.specs.declared.probe_chain.SlotPeek.{SlotPeek}
use Rattle.fast_path.specs.declared.probe_chain.SlotPeek.TheVariants.{Empty, Passed, Stop}
use Rattle.fast_path.specs.declared.probe_chain.ChainResult.{ChainResult}
use Rattle.fast_path.specs.declared.probe_chain.ChainResult.TheVariants.{Over, Stops}

module _ (words packed : List ℕ) (stars : List Float) (slots : ℕ) where
  module _ (home mark : ℕ) where
    -- What is seen at the slot of probe c of the chain.
    abbrev pub peek_at : ℕ → SlotPeek
    peek_at c = peek_of words packed stars mark ((home + c * c) % slots)

    -- The result by what is seen at probe c. The allowance left after that read is a, and `on` is the result from the next probe on.
    abbrev pub along_chain_by : SlotPeek → ℕ → ℕ → ChainResult → ChainResult
    along_chain_by Empty a c on = Over c a
    along_chain_by Stop a c on = Stops c (suc a)
    along_chain_by (Passed p) a c on = cond (ltb (suc c) slots) on (Over c a)

    -- How far the reads go along the chain from probe c on, with an allowance.
    unfoldable pub along_chain : ℕ → ℕ → ChainResult
    along_chain zero c = Stops c 0
    along_chain (suc a) c = along_chain_by (peek_at c) a c (along_chain a (suc c))
