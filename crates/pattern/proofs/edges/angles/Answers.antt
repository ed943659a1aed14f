use Rattle.pattern.proofs.ListsEqual.{same_six}
use Rattle.pattern.specs.Edges.{angles}
use Rattle.pattern.proofs.edges.angles.Goals as goal

pub returns : goal.returns
unfolding angles
returns c =
    same_six c.angle.ensures c.angle-2.ensures c.angle-3.ensures c.angle-4.ensures c.angle-5.ensures c.angle-6.ensures
