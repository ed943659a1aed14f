use mathlib.Core.Path.{◌∙◌}
use borrow.Author.Tests.{eq-eqb, ne_eqb}
use Rattle.std.proofs.Common.{rules, tests}
use Rattle.std.proofs.lemmas.Iterator.{YieldsList-from_slice}
use Rattle.std.proofs.lemmas.Iterator.Search.{all_from_yields_List}
use Rattle.pattern_entry.specs.Stars.{star_valid}
use Rattle.pattern_entry.specs.StarIndices.{stars_read}
use Rattle.pattern_entry.specs.Validity.{entry_valid}
use Rattle.pattern_entry.specs.declared.stars.StarIndex.{StarIndex}
use Rattle.pattern_entry.proofs.EntryValid.{all_stars}
use Rattle.pattern_entry.proofs.validity.entry_valid.Goals as goal

pub returns-then-e-eq22 : goal.returns-then-e-eq22
unfolding entry_valid
returns-then-e-eq22 c =
    let a = c.args in
    simp (eq-eqb _ _ c.if-e-eq22.true)
    (all_from_yields_List (λ (i : StarIndex). star_valid a.stars.now i.0) _ _ c.all.result c.all.ensures.ran (YieldsList-from_slice (stars_read a.e.now) cc) (λ x b q k. search (rules, tests))
    ∙ all_stars (star_valid a.stars.now) a.e.now)

pub returns-else-e-eq22 : goal.returns-else-e-eq22
unfolding entry_valid
returns-else-e-eq22 c = simp (ne_eqb _ _ c.if-e-eq22.false)
