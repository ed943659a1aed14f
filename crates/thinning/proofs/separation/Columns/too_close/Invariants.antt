use mathlib.Core.Path.{◌≡◌}
use Rattle.thinning.specs.Separation.{too_close}
use Rattle.thinning.specs.Columns.{rows_of}
use Rattle.thinning.proofs.separation.Columns.too_close.Given as goal

abbrev pub invariant-loop-j : goal.invariant-loop-j
invariant-loop-j l = let s = l.self-inside in l.near ≡ too_close l.cosine l.v (rows_of s.x s.y s.z l.j)
