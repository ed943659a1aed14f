use Rattle.std.proofs.Common.{get_or, arith}
use Rattle.std.proofs.lemmas.Grind.{common_steps}
use Rattle.std.proofs.lemmas.List.Edits.{map_over_more}
use lib.Ieee.{nan}
use Rattle.bench_exports.proofs.slices.each.Goals as goal

pub loop-v-preserved : goal.loop-v-preserved
loop-v-preserved g c =
    let l = c.loop-v in
    rw (c.requires.1.1 _ _ c.f.ensures)
    (map_over_more g.of c.args.values.now l.values l.v-index (get_or l.values l.v-index nan) (omega arith) l.invariant (grind (arith, common_steps)))
