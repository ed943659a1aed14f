use Rattle.std.proofs.Common.{ap, ◌∙◌}
use lib.Ieee.{lt}
use Rattle.pattern.specs.Sort.{sorted}
use Rattle.pattern.specs.Edges.{edges_of}
use Rattle.pattern.proofs.edges.compute_sorted_edge_angles.Goals as goal

pub returns : goal.returns
unfolding edges_of
returns c = c.sort_any.ensures ∙ ap (sorted lt) c.angles.ensures
