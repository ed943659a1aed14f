use Prim.Native.Nat.{◌*◌}
use mathlib.Core.Path.{◌≡◌}
use mathlib.Core.Bool.{true}
use Rattle.opening_check.specs.OpenCheck.{rank_right}
use Rattle.pattern_catalog.specs.Blocks.{ones_in}
use Rattle.pattern_entry.specs.FirstNo.{every}
use Rattle.opening_check.proofs.open_check.ranks_of.Given as goal

abbrev pub invariant-loop-b : goal.invariant-loop-b
invariant-loop-b l = (every l.b (rank_right l.words) ≡ true) × (l.seen ≡ ones_in l.words 0 (l.b * 448))
