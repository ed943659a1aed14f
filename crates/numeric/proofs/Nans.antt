-- Which bit patterns give the NaN, and that 0 / 0 gives it, for must-fail/nan_as_infinity.edit. Assumes nothing.
use Rattle.std.proofs.Common.{◌≡◌, ℕ, ◌<◌, ◌%◌, true, refl, sym, ◌∙◌, lt-ltb}
use lib.Ieee.{Float, nan, inf, fin, is_nan, binary32, of_bits, div}
use lib.Ieee.Bits.{nan_bits_is, nan_bits_above}

-- A float that is a NaN is the one NaN.
nan_equal : (x : Float) → is_nan x ≡ true → nan ≡ x
unfolding is_nan
nan_equal nan h = refl
nan_equal (inf s) h = cc
nan_equal (fin s m e) h = cc

-- A bit pattern that is above infinity's without its sign bit gives the NaN.
pub nan_pattern : (n : ℕ) → 0x7f80_0000 < n % 0x8000_0000 → of_bits binary32 n ≡ nan
nan_pattern n h = sym (nan_equal (of_bits binary32 n) (sym (nan_bits_is binary32 n) ∙ nan_bits_above binary32 n ∙ lt-ltb _ _ h))

-- 0 / 0 is the NaN.
pub zero_over_zero : div binary32 (of_bits binary32 0) (of_bits binary32 0) ≡ nan
unfolding of_bits div
zero_over_zero = refl
