use borrow.Author.Tests.{eq-eqb, ne_eqb}
use lib.Ieee.{of_bits, div}
use Rattle.c_types.specs.Config.{option_of}
use Rattle.c_types.proofs.config.option_of.Goals as goal

pub returns-then-tag-eq0 : goal.returns-then-tag-eq0
unfolding option_of
returns-then-tag-eq0 c = rw (eq-eqb _ _ c.if-tag-eq0.true)

pub returns-then-tag-eq1 : goal.returns-then-tag-eq1
unfolding option_of
returns-then-tag-eq1 c = rw (ne_eqb _ _ c.if-tag-eq0.false, eq-eqb _ _ c.if-tag-eq1.true)

pub returns : goal.returns
unfolding option_of of_bits div
returns c = rw (ne_eqb _ _ c.if-tag-eq0.false, ne_eqb _ _ c.if-tag-eq1.false)
