-- The source's 16 / (2 · bins) and document 01's 8 / bins are the same f32: 2 · bins is exact, and the quotients round the same fraction.
-- Assumes nothing.
use mathlib.Core.Path.{◌≡◌, refl, sym, ◌∙◌, ap, subst}
use Prim.Native.Nat.{ℕ, ◌*◌, ◌^◌, ◌<◌}
use native.Mathlib.Nat.{mul-pos, le_trans}
use native.Mathlib.Omega.{arith}
use mathlib.Core.Bool.{true, false, true≢false}
use lib.IntN.{pos}
use lib.Dec.{lit≤}
use borrow.Author.Tests.{ne_eqb}
use lib.Ieee.{Float, nan, inf, fin, binary32, up, down, mul, div, round}
use lib.Ieee.Fits.{down_pos}
use lib.Ieee.Exact.{HasValue}
use lib.Ieee.Back.{round_whole}
use lib.Ieee.Positive.{mul_at}
use lib.Ieee.Scale.{round_same}
use Rattle.numeric.specs.KeyPart.{bins32}
use Rattle.numeric.proofs.KeyParts.{bins_value, bins_positive}
use Rattle.settings.specs.ToleranceClaims.{CeilingAsTheSource}

-- A power of two divided by a float with a whole value B is the f32 nearest to that fraction.
power_over : (e : ℕ) (y : Float) (B : ℕ) → 0 < B → HasValue y false B 1 → div binary32 (fin false 1 (pos e)) y ≡ round binary32 false (2 ^ e) B
unfolding div
power_over e nan B b v = absurd v
power_over e (inf s) B b v = absurd v
power_over e (fin true n d) B b v = absurd (true≢false v.0)
power_over e (fin false n d) B b v =
    let p : 0 < n * up d * 1 = subst (λ (z : ℕ). 0 < z) (sym v.1) (mul-pos b (down_pos d)) in
    let w = ap (λ (z : ℕ). 2 ^ e * z) v.1 in
    rw (ne_eqb n 0 (λ z. let q = ap (λ (k : ℕ). k * up d * 1) z in omega arith))
    (round_same binary32 false (1 * 2 ^ e * down d) (n * up d * 1) (2 ^ e) B p b (omega arith))

pub ceiling_as_the_source : CeilingAsTheSource
ceiling_as_the_source B b h =
    let two : HasValue (fin false 1 (pos 1)) false 2 1 = (refl, refl) in
    let twice : mul binary32 (fin false 1 (pos 1)) (bins32 B) ≡ round binary32 false (2 * B) 1 =
    mul_at binary32 (fin false 1 (pos 1)) (bins32 B) 2 1 B 1 tt (bins_positive B b h) (lit≤ tt) (lit≤ tt) two (bins_value B h) in
    let whole : HasValue (mul binary32 (fin false 1 (pos 1)) (bins32 B)) false (2 * B) 1 =
    subst (λ (z : Float). HasValue z false (2 * B) 1) (sym twice) (round_whole binary32 false (2 * B) (le_trans (omega arith) (lit≤ {m = 8192} tt))) in
    power_over 4 (mul binary32 (fin false 1 (pos 1)) (bins32 B)) (2 * B) (omega arith) whole
    ∙ round_same binary32 false 16 (2 * B) 8 B (omega arith) b (omega arith)
    ∙ sym (power_over 3 (bins32 B) B b (bins_value B h))
