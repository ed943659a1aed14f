-- The keys for the values of part 2 before v are added.
use Rattle.std.proofs.Common.{◌-◌, ◌≤◌, max}
use Rattle.pattern_keys.specs.Keys.{concat_map, run}
use Rattle.pattern_keys.specs.NestedLoops.{with_last, Enumerated}
use Rattle.pattern_keys.proofs.nested_loops.add_last_three.Given as goal

abbrev pub invariant-loop-v : goal.invariant-loop-v
invariant-loop-v l =
    let r = l.ranges in
    let a = l.initial.v in
    record {
      added :
          Enumerated r.centre r.bins l.fn.found.hashes l.fn.found.dist l.found.hashes l.found.dist l.fn.found.count l.found.count
          (concat_map (with_last 2 r.lo r.hi) (run 2 a (l.v - a) l.k));
      up_to : l.v ≤ max a l.v-end;
    }
