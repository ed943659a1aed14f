-- A float cut to a whole number, found by comparing the float with whole numbers. Assumes nothing.
use mathlib.Core.Path.{◌≡◌, refl, sym, ap, subst}
use mathlib.Core.Logic.{inl, inr}
use mathlib.Core.Bool.{Bool, true, false}
use Prim.Native.Nat.{ℕ, zero, suc, ◌+◌, ◌-◌, ◌^◌, ◌≤◌, ◌<◌}
use native.Mathlib.Nat.{le_trans, le_antisymm}
use native.Mathlib.Omega.{arith}
use lib.IntN.{pos}
use lib.Dec.{T, le→leb, lit≤}
use lib.Ieee.{Float, binary32, mul, sub, add, le, to_unsigned, of_int, in_float}
use lib.Ieee.Exact.{HasValue}
use lib.Ieee.Order.{le_of_values}
use lib.Ieee.Back.{round_whole}
use mir.Val.{bool_byte}
use Rattle.numeric.proofs.Fraction.{at}
use Rattle.numeric.specs.MinMax.{smaller}
use Rattle.numeric.specs.KeyPart.{bins32, part_of, low_of, high_of}
use Rattle.numeric.specs.Ratios.{Ratio}
use Rattle.numeric.proofs.Order.{lt_or_le, le_through}
use Rattle.numeric.proofs.TruncationOrder.{cut_reaches, cut_least, cut_larger}
use Rattle.pattern.proofs.Keys.{part_below}
use Rattle.numeric.specs.KeyPart.{NarrowTolerance}
use Rattle.pattern_keys.proofs.KeyBounds.{low_image, image_high}

-- ---- whole numbers up to 4,098, two above the most bins, are exact as f32
pub exact : (n : ℕ) → n ≤ 4098 → T (in_float binary32 (pos n))
unfolding in_float
exact n h = le→leb n (2 ^ 24) (le_trans h (lit≤ tt))

whole_value : (n : ℕ) → n ≤ 4098 → HasValue (bins32 n) false n 1
unfolding of_int
whole_value n h = round_whole binary32 false n (le_trans h (lit≤ tt))

at_value : (n : ℕ) → HasValue (at n) false n 1
at_value n = (refl, omega arith)

reaches : (n : ℕ) (x : Float) → n ≤ 4098 → T (le (bins32 n) x) → n ≤ to_unsigned 32 x
reaches n x h k =
    cut_least 32 n x (wide n h) (le_through (at n) (bins32 n) x (le_of_values (at n) (bins32 n) n 1 n 1 (omega arith) (omega arith) (at_value n) (whole_value n h) (omega arith)) k)
  where
    wide : (n : ℕ) → n ≤ 4098 → n < 4294967296
    wide n h = omega arith

short : (n : ℕ) (x : Float) → 0 < n → n ≤ 4098 → (T (le (bins32 n) x) → ⊥) → to_unsigned 32 x < n
short n x p h k =
    elim (lt_or_le (to_unsigned 32 x) n) [
      | inl a ↦ a
      | inr a ↦ absurd (k (le_through (bins32 n) (at n) x (le_of_values (bins32 n) (at n) n 1 n 1 (omega arith) (omega arith) (whole_value n h) (at_value n) (omega arith)) (cut_reaches 32 n x p a)))
    ]

is_true : {b : Bool} → b ≡ true → T b
is_true {b} e = subst T (sym e) tt

not_so : {b : Bool} → b ≡ false → T b → ⊥
not_so {b} e t = subst T e t

pub byte_most : (b : Bool) → bool_byte b ≤ 1
byte_most true = omega arith
byte_most false = omega arith

-- ---- the part of a ratio is at most 4,096
pub part_small : (r e : Float) (B k : ℕ) → Ratio r → NarrowTolerance e B → k ≡ part_of r B → k ≤ 4096
part_small r e B k i t p = let h = part_below r B i t.some_bins t.few_bins in let f = t.few_bins in small k (part_of r B) B p h f
  where
    small : (k p b : ℕ) → k ≡ p → p ≤ b → b ≤ 4096 → k ≤ 4096
    small k p b e h f = omega arith

-- ---- the lower end
down : (b : Bool) (k n : ℕ) (x : Float) → le (bins32 k) x ≡ b → k ≤ 4096 → n ≡ k + bool_byte b - 1 → to_unsigned 32 x ≤ k → to_unsigned 32 x ≤ n
down true k n x t h e l = omega arith
down false zero n x t h e l = omega arith
down false (suc k) n x t h e l = let s = short (suc k) x (omega arith) (omega arith) (not_so t) in omega arith

module _ (r e : Float) (B k n : ℕ) (i : Ratio r) (t : NarrowTolerance e B) (p : k ≡ part_of r B) (m : n ≡ k + bool_byte (le (bins32 k) (mul binary32 (sub binary32 r e) (bins32 B))) - 1) where
  cut_low : to_unsigned 32 (mul binary32 (sub binary32 r e) (bins32 B)) ≡ low_of r e B
  cut_low = sym (cut_larger 32 (mul binary32 (sub binary32 r e) (bins32 B)))

  low_most : low_of r e B ≤ n
  low_most =
      let x = mul binary32 (sub binary32 r e) (bins32 B) in
      subst (λ (z : ℕ). z ≤ n) cut_low
      (down (le (bins32 k) x) k n x refl (part_small r e B k i t p) m (subst (λ (z : ℕ). to_unsigned 32 x ≤ z) (sym p) (subst (λ (z : ℕ). z ≤ part_of r B) (sym cut_low) (low_image r e B i t))))

  pub near_small : n ≤ 4098
  near_small = let h = part_small r e B k i t p in let b = byte_most (le (bins32 k) (mul binary32 (sub binary32 r e) (bins32 B))) in omega arith

  pub low_near : le (bins32 n) (mul binary32 (sub binary32 r e) (bins32 B)) ≡ true → n ≡ low_of r e B
  low_near h = le_antisymm (subst (λ (z : ℕ). n ≤ z) cut_low (reaches n (mul binary32 (sub binary32 r e) (bins32 B)) near_small (is_true h))) low_most

  pub low_none : n ≡ 0 → 0 ≡ low_of r e B
  low_none h = let l = low_most in none (low_of r e B) n l h
    where
      none : (a n : ℕ) → a ≤ n → n ≡ 0 → 0 ≡ a
      none a n h z = omega arith

-- ---- the upper end
rise : (b : Bool) (k n : ℕ) (x : Float) → le (bins32 (k + 1)) x ≡ b → k ≤ 4096 → n ≡ k + bool_byte b → k ≤ to_unsigned 32 x → n ≤ to_unsigned 32 x
rise true k n x t h e l = let s = reaches (k + 1) x (omega arith) (is_true t) in omega arith
rise false k n x t h e l = omega arith

-- The image's part, or the number after it, is small, whatever x is.
pub next_small : (r e : Float) (B k : ℕ) (x : Float) → Ratio r → NarrowTolerance e B → k ≡ part_of r B → k + bool_byte (le (bins32 (k + 1)) x) ≤ 4097
next_small r e B k x i t p = let h = part_small r e B k i t p in let b = byte_most (le (bins32 (k + 1)) x) in omega arith

module _ (r e : Float) (B k : ℕ) (x : Float) (i : Ratio r) (t : NarrowTolerance e B) (p : k ≡ part_of r B) (f : x ≡ smaller (mul binary32 (add binary32 r e) (bins32 B)) (bins32 B)) where
  cut_high : to_unsigned 32 x ≡ high_of r e B
  cut_high = ap (to_unsigned 32) f

  pub high_near : le (bins32 (k + bool_byte (le (bins32 (k + 1)) x) + 1)) x ≡ false → k + bool_byte (le (bins32 (k + 1)) x) ≡ high_of r e B
  high_near h =
      let n = k + bool_byte (le (bins32 (k + 1)) x) in
      let least : n ≤ to_unsigned 32 x = rise (le (bins32 (k + 1)) x) k n x refl (part_small r e B k i t p) refl (subst (λ (z : ℕ). z ≤ to_unsigned 32 x) (sym p) (subst (λ (z : ℕ). part_of r B ≤ z) (sym cut_high) (image_high r e B i t))) in
      let s = next_small r e B k x i t p in
      let most = short (n + 1) x (omega arith) (omega arith) (not_so h) in
      meet n (to_unsigned 32 x) (high_of r e B) least most cut_high
    where
      meet : (n a b : ℕ) → n ≤ a → a < n + 1 → a ≡ b → n ≡ b
      meet n a b h k e = omega arith
