-- `preprocess::brightness_list::order_fits` meets its contract. Assumes nothing.
use mathlib.Core.Path.{◌∙◌, sym}
use borrow.Author.Tests.{not-true, not-false}
use Rattle.preprocess.specs.BrightnessList.{order_fits}
use Rattle.preprocess.proofs.BrightnessList.{below_wider}
use Rattle.preprocess.proofs.brightness_list.order_fits.Goals as goal

pub returns-then-not-all_below : goal.returns-then-not-all_below
unfolding order_fits
returns-then-not-all_below c = simp (sym c.all_below.ensures ∙ not-true _ c.if-not-all_below.true-raw)

pub none_twice_marked-requires : goal.none_twice_marked-requires
none_twice_marked-requires c = below_wider _ 256 _ c.if-count-le256.true (sym c.all_below.ensures ∙ not-false _ c.if-not-all_below.false-raw)

pub returns-then-count-le256 : goal.returns-then-count-le256
unfolding order_fits
returns-then-count-le256 c = simp (sym c.all_below.ensures ∙ not-false _ c.if-not-all_below.false-raw, c.none_twice_marked.ensures)

pub returns : goal.returns
unfolding order_fits
returns c = simp (sym c.all_below.ensures ∙ not-false _ c.if-not-all_below.false-raw, c.none_twice.ensures)
