use Prim.Native.Nat.{◌*◌}
use mathlib.Core.Path.{◌≡◌}
use Rattle.pattern_catalog.specs.Blocks.{ones_in}
use Rattle.pattern_catalog.proofs.count_ones.Block.ones_in.Given as goal

abbrev pub invariant-loop-k : goal.invariant-loop-k
invariant-loop-k l = l.sum ≡ ones_in l.self.words.now (l.self.number * 448) (l.k * 64)
