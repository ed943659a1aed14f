-- `combinations::OfSum::from_a` meets its contract. Assumes nothing.
use native.Mathlib.Numerals.{add-one}
use borrow.Author.Tests.{le-leb, lt-leb}
use mathlib.Core.Path.{ap}
use Rattle.std.specs.Prelude.{Some}
use Rattle.combinations.specs.Successor.{from_a}
use Rattle.combinations.proofs.OfSum.from_a.Goals as goal

pub returns-then-x-self : goal.returns-then-x-self
unfolding from_a
returns-then-x-self c = rw (← c.saturating_sub.ensures, ← c.max-x.ensures, le-leb _ _ c.if-x-self.true) (ap Some c.with_a.ensures)

pub returns : goal.returns
unfolding from_a
returns c = rw (← c.saturating_sub.ensures, ← c.max-x.ensures, lt-leb _ _ c.if-x-self.false, ← add-one) c.from_sum.ensures
