use borrow.Author.Rules.{rules}
use Prim.Native.Nat.{ℕ, ◌-◌, ◌≤◌}
use lib.ListN.{replicate}
use mathlib.Core.Path.{◌≡◌, ap, ◌∙◌}
use native.Mathlib.Omega.{arith}
use lib.Ieee.{of_bits, neg}
use Rattle.search_cache.specs.AngleArray.{unset}
use Rattle.search_cache.proofs.AnglePlaces.{row_inside}
use Rattle.search_cache.proofs.AngleArray.{angles_long, forgot_all, forgot_cached}
use Rattle.search_cache.proofs.angles.Geometry.clear_angles.Goals as goal

pub slice_bounds-fill-end : goal.slice_bounds-fill-end
slice_bounds-fill-end c = omega (arith, c.row-end.ensures, row_inside c.args.n c.requires)

pub returns : goal.returns
unfolding of_bits neg
returns c =
    let m = c.args.self.now.numbers in
    let e = c.row-end.result in
    let few : e ≤ 2208 = omega (arith, c.row-end.ensures, row_inside c.args.n c.requires) in
    let filled : c.fill.new.self ≡ replicate (e - 192) unset = c.fill.ensures.after (λ y h. h) ∙ ap (λ (n : ℕ). replicate n unset) (angles_long m e (search rules) few) in
    let f = forgot_all m c.fill.new.self e (search rules) (omega (arith, c.row-end.ensures)) few filled in
    (forgot_cached _ e c.args.n _ c.requires (omega (arith, c.row-end.ensures)) f, f.directions)
