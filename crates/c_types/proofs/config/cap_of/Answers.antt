use borrow.Author.Tests.{eq-eqb, ne_eqb}
use Rattle.c_types.specs.Config.{cap_of}
use Rattle.c_types.proofs.config.cap_of.Goals as goal

pub returns-then-tag-eq0 : goal.returns-then-tag-eq0
unfolding cap_of
returns-then-tag-eq0 c = rw (eq-eqb _ _ c.if-tag-eq0.true)

pub returns : goal.returns
unfolding cap_of
returns c = rw (ne_eqb _ _ c.if-tag-eq0.false)
