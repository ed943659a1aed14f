use Rattle.std.proofs.Common.{◌∙◌, rules, tests}
use Rattle.std.proofs.lemmas.Iterator.{YieldsList-from_slice, YieldsList-from_zip}
use Rattle.std.proofs.lemmas.Iterator.Search.{all_from_yields_List}
use Rattle.pattern_keys.proofs.TwoValues.{narrow, all_narrow}
use Rattle.pattern_keys.proofs.key_bounds.at_most_two.Goals as goal

pub returns : goal.returns
returns c =
    let lo = c.args.lo in
    let hi = c.args.hi in
    all_from_yields_List narrow c.all.new.self _ c.all.result c.all.ensures.ran (YieldsList-from_zip (YieldsList-from_slice lo cc) (YieldsList-from_slice hi cc)) (λ x b q k. search (rules, tests))
    ∙ all_narrow lo hi c.well_formed.0.1.0.1 c.well_formed.1.0.1.0.1
