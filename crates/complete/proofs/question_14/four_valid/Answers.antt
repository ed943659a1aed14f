use lib.ListN.{length}
use mathlib.Core.Path.{◌≡◌, ◌∙◌}
use Rattle.std.proofs.Common.{rules, tests}
use Rattle.std.proofs.lemmas.Iterator.{YieldsList-from_slice}
use Rattle.std.proofs.lemmas.Iterator.Search.{all_from_yields_List}
use Rattle.pattern_entry.specs.Stars.{star_valid}
use Rattle.pattern_entry.specs.declared.stars.StarIndex.{StarIndex}
use Rattle.complete.proofs.Question14.{all_four}
use Rattle.complete.proofs.question_14.four_valid.Goals as goal

pub returns : goal.returns
returns c =
    let a = c.args in
    let four : length a.four ≡ 4 = search rules in
    all_from_yields_List (λ (i : StarIndex). star_valid a.stars.now i.0) _ _ c.all.result c.all.ensures.ran (YieldsList-from_slice a.four cc) (λ x b q k. search (rules, tests))
    ∙ all_four a.stars.now a.four four
