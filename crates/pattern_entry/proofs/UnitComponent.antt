-- Two comparisons tell whether a float is finite and of magnitude at most 1. Assumes nothing.
use Prim.Native.Nat.{ℕ, zero, suc, ◌+◌, ◌*◌}
use mathlib.Core.Path.{◌≡◌, refl, sym, ap, ap₂, ◌∙◌}
use mathlib.Core.Bool.{Bool, true, false, ◌&&◌, ◌||◌, and-true}
use native.Mathlib.Omega.{arith}
use native.Mathlib.Nat.{mul-one, one-mul}
use borrow.Author.Tests.{leb-true, leb-false, le-leb, eq-eqb, ne_eqb, eqb-true, eqb-false, lt-ltb, le-ltb}
use lib.Dec.{leb, ltb, eqb}
use lib.Ieee.Fits.{down_pos}
use lib.IntN.{ℤ, pos}
use lib.Ieee.{Float, nan, inf, fin, le, up, down}
use Rattle.numeric.specs.Value.{one32}
use Rattle.numeric.specs.Magnitude.{magnitude_of}
use Rattle.pattern_entry.specs.Stars.{unit}

-- The test x < d or x = d is x ≤ d, in whichever order the equation has its sides.
at_most : (x d : ℕ) (q : Bool) → eqb x d ≡ q → (ltb x d || (q && true)) ≡ leb x d
at_most x d q h = by_test (leb x d) q refl h
  where
    by_test : (b q : Bool) → leb x d ≡ b → eqb x d ≡ q → (ltb x d || (q && true)) ≡ leb x d
    by_test true true l e = let i = eqb-true x d e in rw (l, le-ltb x d (omega arith))
    by_test true false l e = let i = eqb-false x d e in let j = leb-true x d l in rw (l, lt-ltb x d (omega arith))
    by_test false true l e = let i = eqb-true x d e in let j = leb-false x d l in absurd (omega arith)
    by_test false false l e = let j = leb-false x d l in rw (l, le-ltb x d (omega arith))

swap : (x d : ℕ) → eqb x d ≡ eqb d x
swap x d = by_test (eqb d x) refl
  where
    by_test : (b : Bool) → eqb d x ≡ b → eqb x d ≡ eqb d x
    by_test true e = let i = eqb-true d x e in rw e (eq-eqb x d (sym i))
    by_test false e = let i = eqb-false d x e in rw e (ne_eqb x d (λ j. i (sym j)))

-- The value m * 2 ^ e lies from -1 to 1 exactly if its numerator is at most its denominator.
within : (s : Bool) (m : ℕ) (e : ℤ) → (le (fin true 1 (pos 0)) (fin s m e) && le (fin s m e) one32) ≡ leb (m * up e) (down e)
unfolding le
within true m e =
    let d = down_pos e in
    let p = lt-ltb 0 (m * up e * 1 + 1 * down e) (omega arith) in
    rw p (and-true _ ∙ at_most (m * up e * 1) (1 * down e) _ (swap (m * up e * 1) (1 * down e)) ∙ ap₂ leb (mul-one (m * up e)) (one-mul (down e)))
within false m e =
    let d = down_pos e in
    let p = lt-ltb 0 (1 * down e + m * up e * 1) (omega arith) in
    rw p (at_most (m * up e * 1) (1 * down e) _ refl ∙ ap₂ leb (mul-one (m * up e)) (one-mul (down e)))

-- The same holds of its magnitude.
at_most_one : (m : ℕ) (e : ℤ) → le (fin false m e) one32 ≡ leb (m * up e) (down e)
unfolding le
at_most_one m e = at_most (m * up e * 1) (1 * down e) _ refl ∙ ap₂ leb (mul-one (m * up e)) (one-mul (down e))

pub unit_is : (x : Float) → (le (fin true 1 (pos 0)) x && le x one32) ≡ unit x
unfolding unit magnitude_of le
unit_is nan = refl
unit_is (inf true) = refl
unit_is (inf false) = refl
unit_is (fin s zero e) = within s zero e ∙ le-leb (0 * up e) (down e) (omega arith)
unit_is (fin s (suc m) e) = within s (suc m) e ∙ sym (at_most_one (suc m) e)

-- The definition `unit` in terms of the two comparisons of the code.
pub unit_high : (x : Float) → le (fin true 1 (pos 0)) x ≡ true → le x one32 ≡ unit x
unit_high x h = sym (ap (λ (b : Bool). b && le x one32) h) ∙ unit_is x

pub unit_low : (x : Float) → le (fin true 1 (pos 0)) x ≡ false → false ≡ unit x
unit_low x h = sym (ap (λ (b : Bool). b && le x one32) h) ∙ unit_is x
