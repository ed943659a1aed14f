use borrow.Author.Rules.{rules}
use mathlib.Core.Path.{refl}
use native.Mathlib.Omega.{arith}
use Rattle.search_cache.proofs.AngleArray.{put_none, put_more}
use Rattle.search_cache.proofs.angles.Geometry.put_directions.Goals as goal

pub loop-k-init : goal.loop-k-init
loop-k-init c = put_none _ _ (search rules)

pub loop-k-preserved : goal.loop-k-preserved
loop-k-preserved c =
    let l = c.loop-k in
    put_more _ l.k l.self.numbers _ (omega arith) refl l.invariant

pub returns : goal.returns
returns c =
    let s = c.loop-k.invariant in
    λ k p. s.each k (omega arith)
