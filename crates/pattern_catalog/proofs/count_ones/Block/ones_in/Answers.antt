use Prim.Native.Nat.{◌+◌, ◌*◌, ◌/◌}
use mathlib.Core.Path.{◌≡◌, refl, sym, ap, ap₂, ◌∙◌}
use native.Mathlib.Omega.{arith}
use Rattle.pattern_catalog.specs.Blocks.{ones_in}
use Rattle.pattern_catalog.proofs.CountOnes.{ones_le, word_more, word_last}
use Rattle.pattern_catalog.proofs.count_ones.Block.ones_in.Goals as goal

pub loop-k-init : goal.loop-k-init
unfolding ones_in
loop-k-init c = refl

pub overflow_add-sum : goal.overflow_add-sum
overflow_add-sum c = let l = c.loop-k in omega (arith, ones_le c.args.self.now.words.now (c.args.self.now.number * 448) (l.k * 64))

pub loop-k-preserved : goal.loop-k-preserved
loop-k-preserved c = let l = c.loop-k in let a = c.args in ap₂ ◌+◌ l.invariant c.count_ones-sum.ensures.0 ∙ sym (word_more a.self.now.words.now a.self.now.number l.k (omega arith) (omega arith))

pub returns-then-whole-eq7 : goal.returns-then-whole-eq7
returns-then-whole-eq7 c = let l = c.loop-k in let a = c.args in l.invariant ∙ ap (ones_in a.self.now.words.now (a.self.now.number * 448)) (omega arith)

pub overflow_add-result : goal.overflow_add-result
overflow_add-result c = let l = c.loop-k in let a = c.args in omega (arith, ones_le a.self.now.words.now (a.self.now.number * 448) (l.k * 64))

pub returns : goal.returns
returns c =
    let l = c.loop-k in
    let a = c.args in
    let k : l.k * 64 ≡ a.n / 64 * 64 = omega arith in
    ap₂ ◌+◌ (l.invariant ∙ ap (ones_in a.self.now.words.now (a.self.now.number * 448)) k) c.ones_below.ensures.0 ∙ sym (word_last a.self.now.words.now a.self.now.number a.n (omega arith))
