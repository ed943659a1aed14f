use mathlib.Core.Path.{sym, ap₂, ◌∙◌}
use Prim.Native.Nat.{◌+◌}
use native.Mathlib.Omega.{arith}
use Rattle.pattern_catalog.proofs.CountOnes.{word_last}
use Rattle.pattern_catalog.proofs.count_ones.Block.ones_below_slot.Goals as goal

pub returns : goal.returns
returns c = let a = c.args in ap₂ ◌+◌ c.ones_in_whole_words.ensures.0 c.ones_below.ensures.0 ∙ sym (word_last a.self.now.words.now a.self.now.number a.n (omega arith))
