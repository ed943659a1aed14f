-- `combinations::OfSum::from_sum` meets its contract. Assumes nothing.
use borrow.Author.Tests.{le-leb, lt-leb}
use mathlib.Core.Path.{ap}
use Rattle.std.specs.Prelude.{Some}
use Rattle.combinations.specs.Successor.{from_sum}
use Rattle.combinations.proofs.OfSum.from_sum.Goals as goal

pub returns-then-t-self : goal.returns-then-t-self
unfolding from_sum
returns-then-t-self c = rw (← c.max-t.ensures, le-leb _ _ c.if-t-self.true) (ap Some c.with_a.ensures)

pub returns-else-t-self : goal.returns-else-t-self
unfolding from_sum
returns-else-t-self c = rw (← c.max-t.ensures, lt-leb _ _ c.if-t-self.false)
