use Rattle.std.proofs.Common.{◌≡◌, ◌∙◌, arith}
use Rattle.pattern_keys.proofs.ValidCodes.{ranged_to, ranged_all}
use Rattle.pattern_keys.proofs.valid_codes.in_ranges.Goals as goal

pub returns : goal.returns
returns c =
    let l = c.loop-i in
    let e : l.i ≡ 5 = omega arith in
    let v : l.v ≡ ranged_to c.args.lo c.args.hi 5 = rw e at l.invariant in
    v ∙ ranged_all c.args.lo c.args.hi
