-- How far the reads of a combination go, key after key, that give no candidate. Definitions only. That the entries passed over are valid and
-- give no candidate, and that the reads lead to a read of the same combination, is proved in proofs/SkippedReads.
use Rattle.std.specs.Prelude.{ℕ, zero, suc, List, get_or, Float}
use Rattle.pattern.specs.Key.{home_of, mark_of}
use Rattle.fast_path.specs.ProbeChain.{along_chain}
use Rattle.fast_path.specs.declared.probe_chain.ChainResult.{ChainResult}
use Rattle.fast_path.specs.declared.probe_chain.ChainResult.TheVariants.{Over, Stops}
use Rattle.fast_path.specs.declared.skip_reads.SkipResult.{SkipResult}

-- Where skipping ends by how far the reads went along the chain of key k. Where the chain is over, that is what `on` makes of its last probe and of
-- what is left of the allowance.
abbrev pub after_chain : ℕ → (ℕ → ℕ → SkipResult) → ChainResult → SkipResult
after_chain k on (Over c a) = on c a
after_chain k on (Stops c a) = record { key = k; probe = c; left = a }

module _ (words packed : List ℕ) (stars : List Float) (slots : ℕ) where
  module _ (hashes : List ℕ) where
    -- How far the reads go along the chain of key k from probe c on, with the allowance a.
    abbrev pub along_key : ℕ → ℕ → ℕ → ChainResult
    along_key k a c = along_chain words packed stars slots (home_of (get_or hashes k 0) slots) (mark_of (get_or hashes k 0)) a c

    -- How far the reads go from key k and probe c on, with `more` keys after k and the allowance a. The last key's last read isn't made.
    unfoldable pub skipped_reads : ℕ → ℕ → ℕ → ℕ → SkipResult
    skipped_reads zero k c a = after_chain k (λ probe left. record { key = k; probe = probe; left = suc left }) (along_key k a c)
    skipped_reads (suc more) k c a = after_chain k (λ probe left. skipped_reads more (suc k) 0 left) (along_key k a c)
