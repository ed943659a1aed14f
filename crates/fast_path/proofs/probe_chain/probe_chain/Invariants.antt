use mathlib.Core.Path.{◌≡◌}
use Prim.Native.Nat.{◌-◌, ◌/◌, ◌≤◌, ◌<◌}
use lib.ListN.{length}
use Rattle.pattern_catalog.specs.Blocks.{place}
use Rattle.fast_path.specs.ProbeChain.{along_chain}
use Rattle.fast_path.specs.declared.probe_chain.ChainResult.TheVariants.{Over}
use Rattle.fast_path.proofs.probe_chain.probe_chain.Given as goal

abbrev pub invariant-loop-c : goal.invariant-loop-c
invariant-loop-c l =
    let T = l.fn.known.table in
    let along = along_chain T.words.now T.packed.now T.stars.now T.slots l.home l.mark in
    record {
      more : l.c < T.slots → along (l.allowance - (l.c - l.from)) l.c ≡ along l.allowance l.from;
      over : T.slots ≤ l.c → Over (l.c - 1) (l.allowance - (l.c - l.from)) ≡ along l.allowance l.from;
      near : l.last < T.slots → (l.there ≡ place T.words.now l.last) × (l.there < length T.packed.now / 22);
    }
