-- `combinations::OfSum::with_a` meets its contract. Assumes nothing.
use Rattle.combinations.proofs.Steps.{with_a_is}
use Rattle.combinations.proofs.OfSum.with_a.Goals as goal

pub returns : goal.returns
returns c = let a = c.args in with_a_is a.self.n a.self.s a.a c.saturating_sub.ensures c.max-x.ensures c.with_b.ensures
