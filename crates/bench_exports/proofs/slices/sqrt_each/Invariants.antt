use Rattle.square_root.specs.Root.{root_of}
use Rattle.bench_exports.proofs.slices.sqrt_each.Given as goal

abbrev pub ghost-each : goal.ghost-each
ghost-each a = root_of
