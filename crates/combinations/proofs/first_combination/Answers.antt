-- `combinations::first_combination` meets its contract. Assumes nothing.
use Rattle.combinations.specs.Successor.{first_combination}
use Rattle.combinations.proofs.first_combination.Goals as goal

pub returns : goal.returns
unfolding first_combination
returns c = c.from_sum.ensures
