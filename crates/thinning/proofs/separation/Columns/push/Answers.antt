use Prim.Native.Nat.{◌<◌}
use lib.ListN.{length}
use native.Mathlib.Omega.{arith}
use mathlib.Core.List.{List, [], ◌∷◌, ◌++◌}
use mathlib.Core.Path.{◌≡◌, ap, ◌∙◌}
use lib.Ieee.{Float}
use Rattle.std.proofs.Common.{rules}
use Rattle.thinning.proofs.Columns.{rows_count, vector_stored}
use Rattle.thinning.proofs.separation.Columns.push.Goals as goal

pub bounds-self-inside-self-inside : goal.bounds-self-inside-self-inside
bounds-self-inside-self-inside c = let s = c.self.inside in omega (arith, ap length c.self.view_is, rows_count s.x s.y s.z s.count)

pub bounds-self-inside-self-inside-2 : goal.bounds-self-inside-self-inside-2
bounds-self-inside-self-inside-2 c = let s = c.self.inside in omega (arith, ap length c.self.view_is, rows_count s.x s.y s.z s.count)

pub bounds-self-inside-self-inside-3 : goal.bounds-self-inside-self-inside-3
bounds-self-inside-self-inside-3 c = let s = c.self.inside in omega (arith, ap length c.self.view_is, rows_count s.x s.y s.z s.count)

pub invariant_of-self : goal.invariant_of-self
invariant_of-self c = let s = c.self.inside in omega (arith, ap length c.self.view_is, rows_count s.x s.y s.z s.count)

pub returns : goal.returns
returns c =
    let s = c.self.inside in
    let few : s.count < 64 = omega (arith, ap length c.self.view_is, rows_count s.x s.y s.z s.count) in
    let three : length c.args.v ≡ 3 = search rules in
    vector_stored s.x s.y s.z s.count c.args.v three (omega arith) (omega arith) (omega arith) ∙ ap (λ (l : List (List Float)). l ++ (c.args.v ∷ [])) c.self.view_is
