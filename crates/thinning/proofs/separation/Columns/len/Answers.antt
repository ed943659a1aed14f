use lib.ListN.{length}
use mathlib.Core.Path.{sym, ap, ◌∙◌}
use Rattle.thinning.proofs.Columns.{rows_count}
use Rattle.thinning.proofs.separation.Columns.len.Goals as goal

pub returns : goal.returns
returns c = let s = c.self.inside in sym (rows_count s.x s.y s.z s.count) ∙ ap length c.self.view_is
