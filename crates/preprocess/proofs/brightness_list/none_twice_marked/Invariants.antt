-- `preprocess::brightness_list::none_twice_marked` meets its contract. Assumes nothing.
use Rattle.preprocess.proofs.BrightnessList.{Left}
use Rattle.preprocess.proofs.brightness_list.none_twice_marked.Given as goal

abbrev pub invariant-loop-x : goal.invariant-loop-x
invariant-loop-x l = Left l.order l.seen l.x-index
