-- `combinations::OfSum::from_b` meets its contract. Assumes nothing.
use native.Mathlib.Numerals.{add-one}
use borrow.Author.Tests.{le-leb, lt-leb}
use mathlib.Core.Path.{ap}
use Rattle.std.specs.Prelude.{Some}
use Rattle.combinations.specs.Successor.{from_b}
use Rattle.combinations.proofs.OfSum.from_b.Goals as goal

pub returns-then-a-x : goal.returns-then-a-x
unfolding from_b
returns-then-a-x c = rw (← c.saturating_sub.ensures, ← c.max-x.ensures, le-leb _ _ c.if-a-x.true) (ap Some c.with_b.ensures)

pub returns-else-a-x : goal.returns-else-a-x
unfolding from_b
returns-else-a-x c = rw (← c.saturating_sub.ensures, ← c.max-x.ensures, lt-leb _ _ c.if-a-x.false, ← add-one) c.from_a.ensures
