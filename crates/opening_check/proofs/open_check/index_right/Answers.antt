use Rattle.opening_check.specs.Shortcuts.{ranks_read}
use Rattle.opening_check.proofs.OpenCheck.{right_total, index_wrong, index_tail, index_is}
use Rattle.pattern_catalog.proofs.CountOnes.{ones_le}
use borrow.Author.Tests.{not-true, not-false}
use lib.ListN.{length}
use mathlib.Core.Path.{◌≡◌, sym, ap, ◌∙◌}
use Prim.Native.Nat.{◌+◌, ◌*◌, ◌/◌}
use native.Mathlib.Omega.{arith}
use Rattle.opening_check.proofs.open_check.index_right.Goals as goal

pub returns-then-not-tail_clear : goal.returns-then-not-tail_clear
returns-then-not-tail_clear c = index_tail c.args.slots c.args.words.now c.args.packed.now (sym c.tail_clear.ensures ∙ not-true _ c.if-not-tail_clear.true-raw)

pub overflow_mul-result : goal.overflow_mul-result
overflow_mul-result c = let blocks : (c.args.slots + 447) / 448 ≡ length c.args.words.now / 8 = omega arith in let t = right_total c.args.words.now ((c.args.slots + 447) / 448) c.in-Some.n (ap (ranks_read c.args.words.now) blocks ∙ sym c.ranks_of.ensures ∙ c.in-Some.is) in omega (arith, ones_le c.args.words.now 0 ((c.args.slots + 447) / 448 * 448), c.requires)

pub returns-in_default : goal.returns-in_default
returns-in_default c = let blocks : (c.args.slots + 447) / 448 ≡ length c.args.words.now / 8 = omega arith in index_wrong c.args.slots c.args.words.now c.args.packed.now (ap (ranks_read c.args.words.now) blocks ∙ sym c.ranks_of.ensures ∙ c.in_default.is)

pub returns : goal.returns
returns c = let blocks : (c.args.slots + 447) / 448 ≡ length c.args.words.now / 8 = omega arith in index_is c.args.slots c.args.words.now c.args.packed.now _ (ap (ranks_read c.args.words.now) blocks ∙ sym c.ranks_of.ensures ∙ c.in-Some.is) (sym c.tail_clear.ensures ∙ not-false _ c.if-not-tail_clear.false-raw)
