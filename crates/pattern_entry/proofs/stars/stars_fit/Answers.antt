use Rattle.pattern_entry.specs.Stars.{stars_fit}
use borrow.Author.Tests.{eq-eqb, ne_eqb}
use Rattle.pattern_entry.proofs.stars.stars_fit.Goals as goal

pub returns-then-stars-eq0 : goal.returns-then-stars-eq0
unfolding stars_fit
returns-then-stars-eq0 c = simp (eq-eqb _ _ c.if-stars-eq0.true)

pub returns-else-stars-eq0 : goal.returns-else-stars-eq0
unfolding stars_fit
returns-else-stars-eq0 c = simp (ne_eqb _ _ c.if-stars-eq0.false)
