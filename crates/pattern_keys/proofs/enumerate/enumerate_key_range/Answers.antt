use mathlib.Core.Path.{ap}
use native.Mathlib.Omega.{arith}
use borrow.Author.Rules.{rules}
use lib.ListN.{length}
use Rattle.pattern_keys.proofs.KeyCount.{in_range_length}
use Rattle.pattern_keys.proofs.KeyRange.{listed_of}
use Rattle.pattern_keys.proofs.NestedLoops.{zeros, loops_is, loops_few, loops_near, loops_hashed}
use Rattle.pattern_keys.proofs.enumerate.enumerate_key_range.Goals as goal

pub add_keys-requires : goal.add_keys-requires
add_keys-requires c =
    let r = c.args.ranges.now in
    (omega arith, omega arith, zeros r.hi r.bins r.parts, omega (arith, in_range_length r.lo r.hi r.narrow, ap length (loops_is r.lo r.hi)))

pub invariant_of-sort : goal.invariant_of-sort
invariant_of-sort c =
    let r = c.args.ranges.now in
    let f = c.add_keys.new.found in
    let listed = listed_of r.centre r.lo r.hi (search rules) r.inside in
    record {
      few = loops_few r.centre r.lo r.hi r.bins r.narrow listed _ _ f.hashes f.dist f.count c.add_keys.ensures;
      near = loops_near r.centre r.lo r.hi r.bins r.narrow listed _ _ f.hashes f.dist f.count c.add_keys.ensures;
    }

pub returns : goal.returns
returns c =
    let r = c.args.ranges.now in
    let f = c.add_keys.new.found in
    let listed = listed_of r.centre r.lo r.hi (search rules) r.inside in
    loops_hashed r.centre r.lo r.hi r.bins r.narrow listed _ _ f.hashes f.dist f.count c.add_keys.ensures c.sort.new.out c.sort.result c.sort.ensures
