use Rattle.arc.specs.Arc.{arc_of}
use Rattle.bench_exports.proofs.slices.arc_each.Given as goal

abbrev pub ghost-each : goal.ghost-each
ghost-each a = arc_of
