use mathlib.Core.Path.{sym, ◌∙◌}
use borrow.Author.Tests.{not-true, not-false}
use Rattle.pattern_catalog.proofs.SlotRead.{in_empty, in_ranked}
use Rattle.pattern_catalog.proofs.rank.TableSlot.find_in.Goals as goal

pub returns-then-not-is_filled : goal.returns-then-not-is_filled
returns-then-not-is_filled c = let a = c.args in in_empty a.self.now.words.now a.packed.now a.self.now.slot (sym c.is_filled.ensures ∙ not-true _ c.if-not-is_filled.true-raw)

pub returns : goal.returns
returns c = let a = c.args in c.placed.ensures ∙ sym (in_ranked a.self.now.words.now a.packed.now a.self.now.slot (sym c.is_filled.ensures ∙ not-false _ c.if-not-is_filled.false-raw) _ (sym c.block_rank.ensures))
