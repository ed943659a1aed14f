use Rattle.std.proofs.Common.{◌≡◌, ◌∙◌, arith}
use Rattle.pattern_keys.proofs.ValidCodes.{valid_to, valid_all}
use Rattle.pattern_keys.proofs.valid_codes.codes_in.Goals as goal

pub returns : goal.returns
returns c =
    let l = c.loop-i in
    let e : l.i ≡ 4 = omega arith in
    let v : l.v ≡ valid_to c.args.lo c.args.hi 4 = rw e at l.invariant in
    v ∙ valid_all c.args.lo c.args.hi
