-- std's words for a float without its sign and for a finite float are those of the definitions. Assumes nothing.
use Rattle.std.proofs.Common.{◌≡◌, ℕ, zero, suc, ◌*◌, ◌<◌, ◌||◌, eqb, false, true, ℤ, pos, negsuc, refl, ap, ◌∙◌, arith, pow-suc, zero-lt-suc, mul-pos, eqb→eq}
use mathlib.Core.Bool.{beq, false≢true}
use lib.Ieee.{Float, nan, inf, fin, eq, binary32, of_bits, fits, up, down}
use lib.Ieee.Fits.{up_pos, and_l}
use lib.Ieee.Scale.{finite}
use Rattle.numeric.proofs.Order.{holds}
use Rattle.std.specs.Float.{float_is_finite, float_with_sign}
use Rattle.numeric.specs.Magnitude.{magnitude_of}

pub finite_same : (x : Float) → float_is_finite x ≡ finite x
unfolding float_is_finite
finite_same nan = refl
finite_same (inf s) = refl
finite_same (fin s m e) = refl

-- A zero that an f32 holds has the exponent 0.
zero_exponent : (e : ℤ) → up e * down e ≡ 1 → e ≡ pos 0
zero_exponent (pos zero) h = refl
zero_exponent (pos (suc n)) h = absurd (omega (arith, pow-suc 2 n))
zero_exponent (negsuc n) h = absurd (omega (arith, pow-suc 2 n))

-- So an f32 r that is x without its sign is +0 where x is a zero.
pub without_sign : (x r : Float) → r ≡ float_with_sign false x → fits binary32 r ≡ true → r ≡ magnitude_of x
unfolding float_with_sign magnitude_of fits
without_sign nan r e h = e
without_sign (inf s) r e h = e
without_sign (fin s zero k) r e h = let z = zero_exponent k (eqb→eq _ _ (holds (fits binary32 (float_with_sign false (fin s zero k))) (rw e at h))) in e ∙ ap (λ (d : ℤ). fin false zero d) z
without_sign (fin s (suc m) k) r e h = e

-- A float's size is above 0 where its digits are.
above_zero : (m : ℕ) (e : ℤ) → 0 < suc m * up e
above_zero m e = mul-pos (zero-lt-suc m) (up_pos e)

-- The magnitude of a float that equals 0 is +0, for must-fail/negative_zero_kept.edit.
pub either_zero : (x : Float) → eq x (of_bits binary32 0) ≡ true → magnitude_of x ≡ of_bits binary32 0
unfolding of_bits magnitude_of eq
either_zero nan h = absurd (false≢true h)
either_zero (inf s) h = absurd (false≢true h)
either_zero (fin s zero e) h = refl
either_zero (fin s (suc m) e) h =
    let q : suc m * up e * 1 ≡ 0 * 1 * down e = eqb→eq (suc m * up e * 1) (0 * 1 * down e)
    (and_l (eqb (suc m * up e * 1) (0 * 1 * down e)) (beq s false || eqb (suc m * up e * 1) 0) (holds (eq (fin s (suc m) e) (of_bits binary32 0)) h)) in
    let p = above_zero m e in
    absurd (omega arith)
