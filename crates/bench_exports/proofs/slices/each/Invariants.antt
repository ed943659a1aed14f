-- The values before the index are replaced, and the others are as they were.
use Rattle.std.proofs.Common.{◌≡◌, ◌++◌, map, take, drop}
use Rattle.bench_exports.proofs.slices.each.Given as goal

abbrev pub invariant-loop-v : goal.invariant-loop-v
invariant-loop-v g l = l.values ≡ map g.of (take l.v-index l.initial.values) ++ drop l.v-index l.initial.values
