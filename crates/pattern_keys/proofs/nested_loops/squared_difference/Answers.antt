use Rattle.std.proofs.Common.{ℕ, ◌*◌, ap, arith}
use Rattle.pattern_keys.specs.Keys.{squared_difference}
use Rattle.pattern_keys.proofs.NestedLoops.{product_below}
use Rattle.pattern_keys.proofs.nested_loops.squared_difference.Goals as goal

pub returns : goal.returns
unfolding squared_difference
returns c = (ap (λ (d : ℕ). d * d) c.abs_diff-d.ensures, product_below c.abs_diff-d.result (omega arith))
