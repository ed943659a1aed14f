-- `preprocess::unit_vectors::centroids_fit` meets its contract. Assumes nothing.
use Prim.Native.Nat.{◌%◌}
use lib.ListN.{length}
use borrow.Author.Tests.{eq-eqb, ne_eqb}
use Rattle.preprocess.specs.Questions.{centroids_fit}
use native.Mathlib.Omega.{arith}
use Rattle.preprocess.proofs.unit_vectors.centroids_fit.Goals as goal

pub returns-then-centroids-eq0 : goal.returns-then-centroids-eq0
unfolding centroids_fit
returns-then-centroids-eq0 c = simp (eq-eqb (length c.args.centroids.now % 2) 0 (omega arith))

pub returns-else-centroids-eq0 : goal.returns-else-centroids-eq0
unfolding centroids_fit
returns-else-centroids-eq0 c = simp (ne_eqb (length c.args.centroids.now % 2) 0 (omega arith))
