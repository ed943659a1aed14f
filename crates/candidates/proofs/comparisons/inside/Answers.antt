use lib.Ieee.{Float}
use lib.ListN.{length}
use mathlib.Core.Path.{◌≡◌, ◌∙◌}
use Rattle.std.proofs.Common.{rules, tests}
use Rattle.std.proofs.lemmas.Iterator.{YieldsList-from_slice, YieldsList-from_zip}
use Rattle.std.proofs.lemmas.Iterator.Search.{all_from_yields_List}
use Rattle.candidates.specs.Comparisons.{inside_one}
use Rattle.candidates.proofs.Inside.{pairs_inside}
use Rattle.candidates.proofs.comparisons.inside.Goals as goal

pub returns : goal.returns
returns c =
    let a = c.args in
    let r : length a.ratios ≡ 5 = search rules in
    let x : length a.x ≡ 5 = search rules in
    all_from_yields_List (λ (p : Float × Float). inside_one p.0 a.e p.1) c.all.new.self _ c.all.result c.all.ensures.ran
    (YieldsList-from_zip (YieldsList-from_slice a.ratios (cc)) (YieldsList-from_slice a.x (cc))) (λ x b q k. search (rules, tests))
    ∙ pairs_inside a.ratios a.x a.e r x
