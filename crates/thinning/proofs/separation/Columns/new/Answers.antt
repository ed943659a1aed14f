use mathlib.Core.Path.{refl}
use Rattle.thinning.specs.Columns.{rows_of}
use Rattle.thinning.proofs.separation.Columns.new.Goals as goal

pub returns : goal.returns
unfolding rows_of
returns c = refl
