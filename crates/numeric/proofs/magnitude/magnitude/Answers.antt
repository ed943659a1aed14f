use Rattle.numeric.proofs.Magnitudes.{without_sign}
use Rattle.numeric.proofs.magnitude.magnitude.Goals as goal

pub returns : goal.returns
returns c = without_sign c.args.x c.abs.result c.abs.ensures.value c.abs.type_inv
