-- `candidates::comparisons::needs_rebuild` meets its contract. Assumes nothing.
use lib.Ieee.{of_bits}
use Rattle.candidates.specs.Comparisons.{rebuild_of}
use Rattle.candidates.proofs.comparisons.needs_rebuild.Goals as goal

pub returns : goal.returns
unfolding rebuild_of of_bits
returns c = simp c.magnitude.ensures
