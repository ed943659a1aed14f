use mathlib.Core.Path.{◌≡◌}
use Prim.Native.Nat.{ℕ, ◌+◌, ◌-◌, ◌<◌}
use Rattle.fast_path.specs.SkipReads.{skipped_reads}
use Rattle.fast_path.proofs.skip_reads.skip_reads.Given as goal

abbrev pub invariant-loop-end : goal.invariant-loop-end
invariant-loop-end l =
    let T = l.fn.known.table in
    let skipped = λ (k c a : ℕ). skipped_reads T.words.now T.packed.now T.stars.now T.slots l.hashes (l.keys - (k + 1)) k c a in
    record { key : l.k < l.keys; probe : l.c < T.slots; same : skipped l.k l.c l.left ≡ skipped l.key l.probe l.allowance }

abbrev pub decreases-loop-end : goal.decreases-loop-end
decreases-loop-end l = l.keys - l.k
