use Prim.Native.Nat.{◌+◌}
use mathlib.Core.Path.{ap₂, ◌∙◌}
use native.Mathlib.Omega.{arith}
use Rattle.pattern_catalog.proofs.CountOnes.{count_none, count_step}
use Rattle.pattern_catalog.proofs.count_ones.Block.ones_in_whole_words.Goals as goal

pub loop-k-init : goal.loop-k-init
loop-k-init c = let a = c.args in (omega arith, count_none a.self.now.words.now a.self.now.number a.q)

pub loop-k-preserved : goal.loop-k-preserved
loop-k-preserved c =
    let l = c.loop-k in
    let a = c.args in
    (omega (arith, l.invariant.0, c.count_ones-sum.ensures.1), ap₂ ◌+◌ l.invariant.1 c.count_ones-sum.ensures.0 ∙ count_step a.self.now.words.now a.self.now.number a.q l.k (omega arith) (omega arith) (omega arith))
