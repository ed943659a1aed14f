-- `preprocess::brightness_list::none_twice` meets its contract. Assumes nothing.
use mathlib.Core.Path.{◌≡◌}
use lib.ListN.{drop}
use Rattle.preprocess.specs.BrightnessList.{none_twice}
use Rattle.preprocess.proofs.brightness_list.none_twice.Given as goal

abbrev pub invariant-loop-i : goal.invariant-loop-i
invariant-loop-i l = none_twice l.order ≡ none_twice (drop l.i l.order)
