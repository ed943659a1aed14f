use Rattle.std.proofs.Common.{get_or, ◌∙◌}
use Rattle.pattern.specs.Key.{hash_of}
use Rattle.pattern.proofs.Hash.{from_above}
use Rattle.pattern.proofs.key.compute_pattern_key_hash.Goals as goal

pub returns : goal.returns
unfolding hash_of
returns c =
    let s = c.args in
    let k = s.k in
    let d = c.above-d.ensures.0 in
    let e = c.above-c.ensures.0 in
    let f = c.above-b.ensures.0 in
    let g = c.above.ensures.0 in
    rw (f, e, d) at g ∙ from_above (get_or k 0 0) (get_or k 1 0) (get_or k 2 0) (get_or k 3 0) (get_or k 4 0) s.bins
