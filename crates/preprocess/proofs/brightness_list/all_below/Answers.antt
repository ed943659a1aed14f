-- `preprocess::brightness_list::all_below` meets its contract. Assumes nothing.
use mathlib.Core.Path.{◌∙◌}
use lib.Dec.{ltb}
use Rattle.std.proofs.Common.{rules, tests}
use Rattle.std.proofs.lemmas.Iterator.{YieldsList-from_slice}
use Rattle.std.proofs.lemmas.Iterator.Search.{all_from_yields_List}
use Rattle.preprocess.proofs.BrightnessList.{all_below_is}
use Rattle.preprocess.proofs.brightness_list.all_below.Goals as goal

pub returns : goal.returns
returns c =
    all_from_yields_List (λ x. ltb x c.args.n) _ _ c.all.result c.all.ensures.ran (YieldsList-from_slice c.args.order.now cc) (λ x b q k. search (rules, tests))
    ∙ all_below_is _ _
