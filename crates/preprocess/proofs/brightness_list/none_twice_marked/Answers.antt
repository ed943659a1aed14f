-- `preprocess::brightness_list::none_twice_marked` meets its contract. Assumes nothing.
use mathlib.Core.Path.{sym}
use Rattle.preprocess.proofs.BrightnessList.{left_start, element_small, met_twice, left_on, left_end}
use Rattle.preprocess.proofs.brightness_list.none_twice_marked.Goals as goal

pub loop-x-init : goal.loop-x-init
loop-x-init c = left_start _ c.requires

pub bounds-seen-at : goal.bounds-seen-at
bounds-seen-at c = let l = c.loop-x in element_small _ l.seen l.x-index l.invariant c.loop-x-test.true

pub returns-then-seen-at : goal.returns-then-seen-at
returns-then-seen-at c =
    let l = c.loop-x in
    sym (met_twice _ l.seen l.x-index l.invariant c.loop-x-test.true c.if-seen-at.true)

pub bounds-seen-at-in-loop-x : goal.bounds-seen-at-in-loop-x
bounds-seen-at-in-loop-x c = let l = c.loop-x in element_small _ l.seen l.x-index l.invariant c.loop-x-test.true

pub loop-x-preserved : goal.loop-x-preserved
loop-x-preserved c =
    let l = c.loop-x in
    left_on _ l.seen l.x-index l.invariant c.loop-x-test.true c.if-seen-at.false

pub returns : goal.returns
returns c = let l = c.loop-x in sym (left_end _ l.seen l.x-index l.invariant c.loop-x-test.false)
