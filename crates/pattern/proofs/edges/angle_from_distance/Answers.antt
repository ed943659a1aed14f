use Rattle.std.proofs.Common.{ap, ◌∙◌}
use lib.Ieee.{binary32, of_bits, mul}
use Rattle.numeric.specs.Value.{two32}
use Rattle.arc.specs.Arc.{arc_of}
use Rattle.pattern.specs.Edges.{angle_of}
use Rattle.pattern.proofs.edges.angle_from_distance.Goals as goal

pub returns : goal.returns
unfolding angle_of of_bits
returns c = ap (mul binary32 two32) (c.arc.ensures ∙ ap arc_of c.smaller.ensures)
