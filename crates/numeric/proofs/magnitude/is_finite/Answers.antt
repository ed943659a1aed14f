use Rattle.std.proofs.Common.{◌∙◌}
use Rattle.numeric.proofs.Magnitudes.{finite_same}
use Rattle.numeric.proofs.magnitude.is_finite.Goals as goal

pub returns : goal.returns
returns c = c.is_finite.ensures.value ∙ finite_same c.args.x
