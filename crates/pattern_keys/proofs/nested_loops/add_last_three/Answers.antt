use Rattle.std.proofs.Common.{◌-◌, refl, rules, arith}
use native.Mathlib.Nat.{sub_self}
use Rattle.pattern_keys.specs.Keys.{concat_map, run}
use Rattle.pattern_keys.specs.NestedLoops.{with_last}
use Rattle.pattern_keys.proofs.NestedLoops.{enumerated_none, value_added, value_room, loop_is, parts_set, part_at}
use Rattle.pattern_keys.proofs.nested_loops.add_last_three.Goals as goal

pub loop-v-init : goal.loop-v-init
unfolding concat_map run
loop-v-init c = record { added = rw (sub_self c.max-v.result) (enumerated_none _ _ _ _ _ (search rules) (search rules)); up_to = omega arith }

pub add_last_two-requires : goal.add_last_two-requires
add_last_two-requires c =
    let r = c.args.ranges.now in
    let k = c.args.k in
    let l = c.loop-v in
    let room = value_room 3 r.lo r.hi k c.max-v.result l.v c.args.found.now.count l.found.count (omega arith) c.max-v.ensures (omega arith) (omega arith) l.invariant.added.count c.requires.1 in
    let part = part_at r.hi r.bins 2 r.parts (omega arith) in
    (parts_set k r.bins 2 l.v (omega arith) c.requires.0, room)

pub loop-v-preserved : goal.loop-v-preserved
loop-v-preserved c =
    let r = c.args.ranges.now in
    let l = c.loop-v in
    record {
      added = value_added r.centre r.bins (with_last 2 r.lo r.hi) 2 c.max-v.result l.v c.args.k _ _ _ _ _ _ _ _ _ (omega arith) l.invariant.added c.add_last_two.ensures;
      up_to = omega arith;
    }

pub returns : goal.returns
returns c =
    let r = c.args.ranges.now in
    let l = c.loop-v in
    let a = c.max-v.result in
    rw (loop_is 3 r.lo r.hi c.args.k 2 a (l.v - a) (omega arith) refl c.max-v.ensures (omega arith)) at l.invariant.added
