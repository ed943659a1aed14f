use Prim.Native.Nat.{◌-◌}
use mathlib.Core.List.{◌++◌}
use lib.ListN.{get_or}
use Rattle.pattern_keys.specs.CodeOrder.{unpack, codes_around}
use Rattle.pattern_keys.proofs.CodeList.{put_chain}
use Rattle.pattern_keys.proofs.codes.listed.Goals as goal

pub returns : goal.returns
unfolding codes_around
returns c =
    let a = c.args.sums.now in
    let v = c.args.valid in
    let x = c.args.c in
    let w = c.around-w in
    let l6 = unpack (31 - x) 1 in
    let l5 = unpack (get_or w.result 3 0) 5 ++ l6 in
    let l4 = unpack (get_or w.result 2 0) 10 ++ l5 in
    let l3 = unpack (get_or w.result 1 0) 10 ++ l4 in
    let l2 = unpack (get_or w.result 0 0) 5 ++ l3 in
    let p5 = put_chain a v _ _ _ _ _ _ (unpack (get_or w.result 3 0) 5) l6 c.add-u.ensures.0 c.add.ensures.0 in
    let p4 = put_chain a v _ _ _ _ _ _ (unpack (get_or w.result 2 0) 10) l5 c.add-t.ensures.0 p5 in
    let p3 = put_chain a v _ _ _ _ _ _ (unpack (get_or w.result 1 0) 10) l4 c.add-s.ensures.0 p4 in
    let p2 = put_chain a v _ _ _ _ _ _ (unpack (get_or w.result 0 0) 5) l3 c.add-q.ensures.0 p3 in
    let p1 = put_chain a v _ _ _ _ _ _ (unpack x 1) l2 c.add-p.ensures.0 p2 in
    rw w.ensures at p1
