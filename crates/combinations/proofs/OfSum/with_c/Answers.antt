-- `combinations::OfSum::with_c` meets its contract. Assumes nothing.
use Rattle.combinations.proofs.Steps.{with_c_is}
use Rattle.combinations.proofs.OfSum.with_c.Goals as goal

pub returns : goal.returns
returns c = let a = c.args in with_c_is a.self.n a.self.s a.a a.b a.c c.saturating_sub.ensures c.max-x.ensures c.saturating_sub-2.ensures
