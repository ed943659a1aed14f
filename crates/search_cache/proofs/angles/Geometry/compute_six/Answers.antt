use mathlib.Core.Path.{ap}
use mathlib.Core.List.{List}
use native.Mathlib.Omega.{arith}
use lib.ListN.{get_or}
use lib.Ieee.{Float, nan}
use Rattle.pattern.specs.Edges.{angles}
use Rattle.search_cache.proofs.AngleArray.{still_same, still_on, asked_again, six_are}
use Rattle.search_cache.proofs.angles.Geometry.compute_six.Goals as goal

pub keep-requires : goal.keep-requires
unfolding angles
keep-requires c =
    let r = c.requires.0 in
    let q = c.args.q in
    let m = c.args.self.now.numbers in
    let six = six_are m q r c.requires.1 _ _ _ c.four_at-v.ensures c.requires.2 c.edge_angles-six.ensures in
    let s0 = still_same m in
    asked_again m _ q.a q.b _ s0 (omega (arith, r.ab, r.bc, r.cd, r.dn)) (omega (arith, r.ab, r.bc, r.cd, r.dn)) (ap (λ (l : List Float). get_or l 0 nan) six)

pub keep-requires-2 : goal.keep-requires-2
unfolding angles
keep-requires-2 c =
    let r = c.requires.0 in
    let q = c.args.q in
    let m = c.args.self.now.numbers in
    let six = six_are m q r c.requires.1 _ _ _ c.four_at-v.ensures c.requires.2 c.edge_angles-six.ensures in
    let s0 = still_same m in
    let s1 = still_on m _ _ s0 c.keep.ensures in
    asked_again m _ q.a q.c _ s1 (omega (arith, r.ab, r.bc, r.cd, r.dn)) (omega (arith, r.ab, r.bc, r.cd, r.dn)) (ap (λ (l : List Float). get_or l 1 nan) six)

pub keep-requires-3 : goal.keep-requires-3
unfolding angles
keep-requires-3 c =
    let r = c.requires.0 in
    let q = c.args.q in
    let m = c.args.self.now.numbers in
    let six = six_are m q r c.requires.1 _ _ _ c.four_at-v.ensures c.requires.2 c.edge_angles-six.ensures in
    let s0 = still_same m in
    let s1 = still_on m _ _ s0 c.keep.ensures in
    let s2 = still_on m _ _ s1 c.keep-2.ensures in
    asked_again m _ q.a q.d _ s2 (omega (arith, r.ab, r.bc, r.cd, r.dn)) (omega (arith, r.ab, r.bc, r.cd, r.dn)) (ap (λ (l : List Float). get_or l 2 nan) six)

pub keep-requires-4 : goal.keep-requires-4
unfolding angles
keep-requires-4 c =
    let r = c.requires.0 in
    let q = c.args.q in
    let m = c.args.self.now.numbers in
    let six = six_are m q r c.requires.1 _ _ _ c.four_at-v.ensures c.requires.2 c.edge_angles-six.ensures in
    let s0 = still_same m in
    let s1 = still_on m _ _ s0 c.keep.ensures in
    let s2 = still_on m _ _ s1 c.keep-2.ensures in
    let s3 = still_on m _ _ s2 c.keep-3.ensures in
    asked_again m _ q.b q.c _ s3 (omega (arith, r.ab, r.bc, r.cd, r.dn)) (omega (arith, r.ab, r.bc, r.cd, r.dn)) (ap (λ (l : List Float). get_or l 3 nan) six)

pub keep-requires-5 : goal.keep-requires-5
unfolding angles
keep-requires-5 c =
    let r = c.requires.0 in
    let q = c.args.q in
    let m = c.args.self.now.numbers in
    let six = six_are m q r c.requires.1 _ _ _ c.four_at-v.ensures c.requires.2 c.edge_angles-six.ensures in
    let s0 = still_same m in
    let s1 = still_on m _ _ s0 c.keep.ensures in
    let s2 = still_on m _ _ s1 c.keep-2.ensures in
    let s3 = still_on m _ _ s2 c.keep-3.ensures in
    let s4 = still_on m _ _ s3 c.keep-4.ensures in
    asked_again m _ q.b q.d _ s4 (omega (arith, r.ab, r.bc, r.cd, r.dn)) (omega (arith, r.ab, r.bc, r.cd, r.dn)) (ap (λ (l : List Float). get_or l 4 nan) six)

pub keep-requires-6 : goal.keep-requires-6
unfolding angles
keep-requires-6 c =
    let r = c.requires.0 in
    let q = c.args.q in
    let m = c.args.self.now.numbers in
    let six = six_are m q r c.requires.1 _ _ _ c.four_at-v.ensures c.requires.2 c.edge_angles-six.ensures in
    let s0 = still_same m in
    let s1 = still_on m _ _ s0 c.keep.ensures in
    let s2 = still_on m _ _ s1 c.keep-2.ensures in
    let s3 = still_on m _ _ s2 c.keep-3.ensures in
    let s4 = still_on m _ _ s3 c.keep-4.ensures in
    let s5 = still_on m _ _ s4 c.keep-5.ensures in
    asked_again m _ q.c q.d _ s5 (omega (arith, r.ab, r.bc, r.cd, r.dn)) (omega (arith, r.ab, r.bc, r.cd, r.dn)) (ap (λ (l : List Float). get_or l 5 nan) six)

pub returns : goal.returns
returns c =
    let m = c.args.self.now.numbers in
    let s0 = still_same m in
    let s1 = still_on m _ _ s0 c.keep.ensures in
    let s2 = still_on m _ _ s1 c.keep-2.ensures in
    let s3 = still_on m _ _ s2 c.keep-3.ensures in
    let s4 = still_on m _ _ s3 c.keep-4.ensures in
    let s5 = still_on m _ _ s4 c.keep-5.ensures in
    let s6 = still_on m _ _ s5 c.keep-6.ensures in
    record { six = six_are m c.args.q c.requires.0 c.requires.1 _ _ _ c.four_at-v.ensures c.requires.2 c.edge_angles-six.ensures; directions = s6 }
