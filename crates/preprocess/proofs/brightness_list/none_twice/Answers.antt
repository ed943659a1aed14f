-- `preprocess::brightness_list::none_twice` meets its contract. Assumes nothing.
use Prim.Native.Nat.{◌+◌}
use mathlib.Core.Path.{◌∙◌, sym}
use Rattle.preprocess.proofs.BrightnessList.{among_rest, twice_step, twice_end}
use Rattle.preprocess.proofs.brightness_list.none_twice.Goals as goal

pub returns-then-contains : goal.returns-then-contains
returns-then-contains c =
    let l = c.loop-i in
    let s = c.args.order.now in
    sym (l.invariant ∙ (rw (twice_step s l.i c.loop-i-test.true, sym (among_rest _ (l.i + 1) s) ∙ sym c.contains.ensures.value ∙ c.if-contains.true)))

pub loop-i-preserved : goal.loop-i-preserved
loop-i-preserved c =
    let l = c.loop-i in
    let s = c.args.order.now in
    l.invariant ∙ (rw (twice_step s l.i c.loop-i-test.true, sym (among_rest _ (l.i + 1) s) ∙ sym c.contains.ensures.value ∙ c.if-contains.false))

pub returns : goal.returns
returns c = let l = c.loop-i in sym (l.invariant ∙ twice_end _ l.i c.loop-i-test.false)
