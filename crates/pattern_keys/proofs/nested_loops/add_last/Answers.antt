use Rattle.std.proofs.Common.{◌≡◌, ◌+◌, ◌-◌, ◌*◌, ◌<◌, ◌≤◌, set, refl, sym, rules, arith}
use native.Mathlib.Nat.{sub_self, mul-le-mul}
use Rattle.pattern.proofs.Hash.{hash_below}
use Rattle.pattern.specs.Key.{hash_of}
use Rattle.pattern_keys.specs.Keys.{concat_map, run, squared_distance}
use Rattle.pattern_keys.specs.NestedLoops.{with_last, Enumerated}
use Rattle.pattern_keys.proofs.CodeSums.{small}
use Rattle.pattern_keys.proofs.NestedLoops.{enumerated_none, enumerated_one, value_added, value_room, loop_is, parts_set, hash_last, distance_last}
use Rattle.pattern_keys.proofs.nested_loops.add_last.Goals as goal

pub overflow_mul-square : goal.overflow_mul-square
overflow_mul-square c = let p = small c.args.ranges.now.bins c.requires.0.few in record { fits = omega (arith, p.two) }

pub overflow_mul-weight : goal.overflow_mul-weight
overflow_mul-weight c = let p = small c.args.ranges.now.bins c.requires.0.few in record { fits = omega (arith, p.four) }

pub loop-v-init : goal.loop-v-init
unfolding concat_map run
loop-v-init c = record { added = rw (sub_self c.max-v.result) (enumerated_none _ _ _ _ _ (search rules) (search rules)); up_to = omega arith }

pub overflow_mul-v : goal.overflow_mul-v
overflow_mul-v c =
    let r = c.args.ranges.now in
    let part = r.parts.fifth in
    let few : c.loop-v.v ≤ 4096 = omega (arith, part, c.requires.0.few) in
    let m = mul-le-mul few (small r.bins c.requires.0.few).four in
    record { fits = omega (arith, m) }

pub overflow_add-hash : goal.overflow_add-hash
overflow_add-hash c =
    let r = c.args.ranges.now in
    let part = r.parts.fifth in
    let few : c.loop-v.v ≤ 4096 = omega (arith, part, c.requires.0.few) in
    let m = mul-le-mul few (small r.bins c.requires.0.few).four in
    let p = parts_set c.args.k r.bins 4 0 (omega arith) c.requires.0 in
    let h : c.compute_pattern_key_hash-hash.result < 4611686018427387904 = rw c.compute_pattern_key_hash-hash.ensures (hash_below _ _ p) in
    record { fits = omega (arith, m, h) }

pub push-requires : goal.push-requires
unfolding with_last
push-requires c =
    let r = c.args.ranges.now in
    let k = c.args.k in
    let l = c.loop-v in
    let room = value_room 1 r.lo r.hi k c.max-v.result l.v c.args.found.now.count l.found.count (omega arith) c.max-v.ensures (omega arith) (omega arith) l.invariant.added.count c.requires.1 in
    omega (arith, room)

pub loop-v-preserved : goal.loop-v-preserved
unfolding with_last
loop-v-preserved c =
    let r = c.args.ranges.now in
    let k = c.args.k in
    let l = c.loop-v in
    let a = c.max-v.result in
    let f = l.found in
    let y = c.push.new.self in
    let B = r.bins in
    let near = c.compute_pattern_key_hash-hash in
    let apart = c.squared_distance-distance in
    let apart_v = c.squared_difference in
    let hash = near.result + l.v * (B * B * (B * B)) in
    let p = c.push.ensures in
    let h : hash ≡ hash_of (set k 4 l.v) B = rw near.ensures (sym (hash_last k B l.v (search rules))) in
    let d : apart.result + apart_v.result ≡ squared_distance r.centre (set k 4 l.v) = rw (apart.ensures.0, apart_v.ensures.0) (sym (distance_last r.centre k 0 l.v (search rules))) in
    let room = value_room 1 r.lo r.hi k a l.v c.args.found.now.count f.count (omega arith) c.max-v.ensures (omega arith) (omega arith) l.invariant.added.count c.requires.1 in
    let one = enumerated_one r.centre B f.hashes f.dist f.count hash (apart.result + apart_v.result) (set k 4 l.v) (omega (arith, room)) (search rules) (search rules) h d in
    let here : Enumerated r.centre B f.hashes f.dist y.hashes y.dist f.count y.count (with_last 0 r.lo r.hi (set k 4 l.v)) = rw (p.0, p.1, p.2) one in
    record {
      added = value_added r.centre B (with_last 0 r.lo r.hi) 4 a l.v k _ _ _ _ _ _ _ _ _ (omega arith) l.invariant.added here;
      up_to = omega arith;
    }

pub returns : goal.returns
returns c =
    let r = c.args.ranges.now in
    let k = c.args.k in
    let l = c.loop-v in
    let a = c.max-v.result in
    rw (loop_is 1 r.lo r.hi k 4 a (l.v - a) (omega arith) refl c.max-v.ensures (omega arith)) at l.invariant.added
