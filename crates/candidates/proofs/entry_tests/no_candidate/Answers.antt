use mathlib.Core.Path.{refl}
use lib.Ieee.{of_bits}
use Rattle.candidates.specs.NoCandidate.{no_candidate}
use Rattle.candidates.proofs.entry_tests.no_candidate.Goals as goal

pub returns : goal.returns
unfolding no_candidate of_bits
returns c = refl
