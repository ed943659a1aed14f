use mathlib.Core.Path.{◌≡◌, sym, ap, ◌∙◌}
use native.Mathlib.Omega.{arith}
use lib.Ieee.{lt}
use Rattle.thinning.specs.Columns.{row_at, rows_of}
use Rattle.thinning.specs.Separation.{too_close}
use Rattle.thinning.proofs.TooClose.{near_none, near_yes, near_no}
use Rattle.thinning.proofs.separation.Columns.too_close.Goals as goal
use Rattle.thinning.proofs.separation.Columns.too_close.Goals.{then-cosine-dot, else-cosine-dot}

pub loop-j-init : goal.loop-j-init
loop-j-init c = let s = c.self.inside in near_none c.args.cosine c.args.v s.x s.y s.z

pub loop-j-preserved : goal.loop-j-preserved
unfolding row_at
loop-j-preserved c =
    let a = c.args in
    let l = c.loop-j in
    let s = c.self.inside in
    let d = ap (lt a.cosine) (sym c.dot.ensures) in
    elim c.if-cosine-dot.branch [
      | then-cosine-dot w ↦ w.near-is ∙ near_yes a.cosine a.v s.x s.y s.z l.j (d ∙ w.if-cosine-dot.true)
      | else-cosine-dot w ↦ w.near-is ∙ l.invariant ∙ near_no a.cosine a.v s.x s.y s.z l.j (d ∙ w.if-cosine-dot.false)
    ]

pub returns : goal.returns
returns c =
    let s = c.self.inside in
    let e : c.loop-j.j ≡ s.count = omega arith in
    c.loop-j.invariant ∙ ap (λ k. too_close c.args.cosine c.args.v (rows_of s.x s.y s.z k)) e ∙ ap (too_close c.args.cosine c.args.v) c.self.view_is
