use mathlib.Core.Path.{◌∙◌}
use lib.Dec.{ltb}
use Rattle.std.proofs.Common.{rules, tests}
use Rattle.std.proofs.lemmas.Iterator.{YieldsList-from_slice}
use Rattle.std.proofs.lemmas.Iterator.Search.{all_from_yields_List}
use Rattle.pattern_entry.specs.StarIndices.{stars_read}
use Rattle.pattern_entry.specs.ValidityShortcuts.{indices_below}
use Rattle.pattern_entry.specs.declared.stars.StarIndex.{StarIndex}
use Rattle.pattern_entry.proofs.EntryValid.{all_stars}
use Rattle.pattern_entry.proofs.validity.indices_below.Goals as goal

pub returns : goal.returns
unfolding indices_below
returns c =
    let a = c.args in
    all_from_yields_List (λ (i : StarIndex). ltb i.0 a.n) _ _ c.all.result c.all.ensures.ran (YieldsList-from_slice (stars_read a.e.now) cc) (λ x b q k. search (rules, tests))
    ∙ all_stars (λ x. ltb x a.n) a.e.now
