-- `combinations::OfSum::with_b` meets its contract. Assumes nothing.
use Rattle.combinations.proofs.Steps.{with_b_is}
use Rattle.combinations.proofs.OfSum.with_b.Goals as goal

pub returns : goal.returns
returns c = let a = c.args in with_b_is a.self.n a.self.s a.a a.b c.saturating_sub.ensures c.max-x.ensures c.with_c.ensures
