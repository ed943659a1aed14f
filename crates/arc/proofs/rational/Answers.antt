use mathlib.Core.Path.{refl}
use lib.Ieee.{of_bits, neg}
use Rattle.arc.specs.Arc.{rational}
use Rattle.arc.proofs.rational.Goals as goal

pub returns : goal.returns
unfolding rational of_bits neg
returns c = refl
