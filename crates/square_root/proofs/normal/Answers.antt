-- `square_root::normal` meets its contract. Assumes nothing.
use Rattle.square_root.proofs.Values.{normal_root}
use Rattle.square_root.proofs.normal.Goals as goal

pub returns : goal.returns
returns c = normal_root c.args.b c.pattern.result c.requires.0 c.requires.1 c.pattern.ensures
