use Prim.Native.Nat.{ℕ, ◌+◌, ◌*◌, ◌/◌}
use mathlib.Core.Path.{◌≡◌, refl, sym, ap, ◌∙◌}
use mathlib.Core.Bool.{Bool, true, false, ◌&&◌}
use native.Mathlib.Omega.{arith}
use lib.ListN.{length, length-take}
use lib.Seq.{get_or-take}
use lib.Ieee.{nan}
use Rattle.pattern_entry.specs.Stars.{unit}
use Rattle.pattern_entry.specs.FirstNo.{every}
use Rattle.pattern_entry.proofs.Every.{every_suc, every_none}
use Rattle.pattern_entry.proofs.StarSlice.{unit_at, every_component}
use Rattle.pattern_entry.proofs.stars.every_star_valid.Goals as goal
use Rattle.pattern_entry.proofs.stars.every_star_valid.Goals.{then-not-is_unit, else-not-is_unit}

-- one test more, which says yes or no
with_yes : (a b : Bool) → b ≡ true → a ≡ (a && b)
with_yes true b h = sym h
with_yes false b h = refl

with_no : (a b : Bool) → b ≡ false → false ≡ (a && b)
with_no true b h = sym h
with_no false b h = refl

pub loop-x-init : goal.loop-x-init
loop-x-init c = sym (every_none _)

pub loop-x-preserved : goal.loop-x-preserved
loop-x-preserved c =
    let a = c.args in
    let l = c.loop-x in
    let n = length a.stars.now / 3 * 3 in
    let p = unit_at a.stars.now in
    let more : every (l.x-index + 1) p ≡ (every l.x-index p && p l.x-index) = every_suc l.x-index p in
    let is : p l.x-index ≡ c.is_unit.result = ap unit (sym (get_or-take n a.stars.now l.x-index nan (omega (arith, length-take n a.stars.now)))) ∙ sym c.is_unit.ensures in
    elim c.if-not-is_unit.branch [
      | then-not-is_unit w ↦ w.valid-is ∙ with_no (every l.x-index p) (p l.x-index) (is ∙ w.if-not-is_unit.true) ∙ sym more
      | else-not-is_unit w ↦ w.valid-is ∙ l.invariant ∙ with_yes (every l.x-index p) (p l.x-index) (is ∙ w.if-not-is_unit.false) ∙ sym more
    ]

pub returns : goal.returns
returns c =
    let a = c.args in
    let l = c.loop-x in
    let e : l.x-index ≡ length a.stars.now / 3 * 3 = omega (arith, length-take (length a.stars.now / 3 * 3) a.stars.now) in
    l.invariant ∙ ap (λ (n : ℕ). every n (unit_at a.stars.now)) e ∙ every_component a.stars.now
