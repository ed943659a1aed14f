-- How each operation acts on values between two ends: the ends of the result are what the operation gives at the ends.
-- Where the ends are numerals, the checker computes them. Assumes nothing.
use Rattle.std.proofs.Common.{◌≡◌, ℕ, ◌+◌, ◌*◌, ◌≤◌, true, false, T, ℤ, refl, ap, mul-le-mul, mul-pos, arith}
use lib.Ieee.{Float, nan, inf, fin, Format, binary32, binary64, add, sub, mul, div, le, neg, fits}
use lib.Ieee.Scale.{finite}
use lib.Ieee.Positive.{den, den_pos, positive, positive-finite, between}
use Rattle.numeric.specs.Value.{zero32}
use Rattle.numeric.proofs.Fraction.{over, under}
use Rattle.numeric.proofs.Order.{le→below, below→le, le_left, le_neg, le_through, le_same, finite_number}
use Rattle.numeric.proofs.Rounding.{Rounds, rounds_mono, rounds_same}
use Rattle.numeric.proofs.Operations.{mul_rounds, div_rounds, add_mono, sub_mono, nonneg_under, over_pos, dens}
use Rattle.numeric.proofs.Representable.{Representable, representable_fits, rounds_le, rounds_ge}
use Rattle.numeric.proofs.Bounds.{finite_between, positive_nonneg}
use Rattle.numeric.specs.Interval.{In}

pub in_finite : {a b x : Float} → T (finite a) → T (finite b) → In a b x → T (finite x)
in_finite {a} {b} {x} p q i = finite_between a x b p q i.low i.high

pub in_wider : {a b x : Float} (a' b' : Float) → T (le a' a) → T (le b b') → In a b x → In a' b' x
in_wider {a} {b} {x} a' b' h k i = record { low = le_through a' a x h i.low; high = le_through x b b' i.high k }

pub in_self : (x : Float) → T (finite x) → In x x x
in_self x p = record { low = le_same x (finite_number x p); high = le_same x (finite_number x p) }

-- ---- sums and differences
module _ (f : Format) {a b c d x y : Float} (A : T (finite a)) (B : T (finite b)) (C : T (finite c)) (D : T (finite d)) (i : In a b x) (j : In c d y) where
  pub in_add : In (add f a c) (add f b d) (add f x y)
  in_add =
      let X = in_finite A B i in
      let Y = in_finite C D j in
      record { low = add_mono f a x c y A X C Y i.low j.low; high = add_mono f x b y d X B Y D i.high j.high }

  pub in_sub : In (sub f a d) (sub f b c) (sub f x y)
  in_sub =
      let X = in_finite A B i in
      let Y = in_finite C D j in
      record { low = sub_mono f a x d y A X D Y i.low j.high; high = sub_mono f x b y c X B Y C i.high j.low }

-- ---- what is not above zero
pub nonpos_over : (y : Float) → T (finite y) → T (le y zero32) → over y ≡ 0
nonpos_over nan q h = refl
nonpos_over (inf s) q h = refl
nonpos_over (fin true n d) q h = refl
nonpos_over (fin false n d) q h = let b = le→below (fin false n d) zero32 tt tt h in omega arith

zero_representable : (f : Format) → Representable f zero32
unfolding fits
zero_representable binary32 = representable_fits binary32 zero32 tt tt
zero_representable binary64 = representable_fits binary64 zero32 tt tt

-- ---- products
module _ (f : Format) (x y : Float) (X : T (finite x)) (Y : T (finite y)) (h : T (le zero32 x)) where
  product : Rounds f (over x * over y) (over x * under y) (den x * den y) (mul f x y)
  product =
      let z = nonneg_under x X h in
      let a = ap (λ (k : ℕ). k * under y) z in
      let b = ap (λ (k : ℕ). k * over y) z in
      rounds_same f (over x * over y + under x * under y) (over x * under y + under x * over y) (den x * den y) (over x * over y) (over x * under y) (den x * den y) (mul f x y) (omega arith) (omega arith) refl (mul_rounds f x y X Y)

  pub mul_nonneg : T (le zero32 y) → T (le zero32 (mul f x y))
  mul_nonneg k =
      rounds_ge f (over x * over y) (over x * under y) (den x * den y) (mul f x y) zero32 (dens x y) product tt (zero_representable f)
      (let a = ap (λ (u : ℕ). over x * u) (nonneg_under y Y k) in omega arith)

  pub mul_nonpos : T (le y zero32) → T (le (mul f x y) zero32)
  mul_nonpos k =
      rounds_le f (over x * over y) (over x * under y) (den x * den y) (mul f x y) zero32 (dens x y) product tt (zero_representable f)
      (let a = ap (λ (u : ℕ). over x * u) (nonpos_over y Y k) in omega arith)

-- The product of two inequalities of fractions, as inequalities of whole numbers.
pair : (ox dx oy dy ob db od dd : ℕ) → ox * db ≤ ob * dx → oy * dd ≤ od * dy → ox * oy * (db * dd) ≤ ob * od * (dx * dy)
pair ox dx oy dy ob db od dd h k = let m = mul-le-mul h k in omega arith

plain : (ox ux dx oy uy dy : ℕ) → ux ≡ 0 → uy ≡ 0 → ox * dy + uy * dx ≤ oy * dx + ux * dy → ox * dy ≤ oy * dx
plain ox ux dx oy uy dy p q h = let a = ap (λ (k : ℕ). k * dy) p in let b = ap (λ (k : ℕ). k * dx) q in omega arith

plain_under : (ox ux dx oy uy dy : ℕ) → ox ≡ 0 → oy ≡ 0 → ox * dy + uy * dx ≤ oy * dx + ux * dy → uy * dx ≤ ux * dy
plain_under ox ux dx oy uy dy p q h = let a = ap (λ (k : ℕ). k * dy) p in let b = ap (λ (k : ℕ). k * dx) q in omega arith

-- The order x ≤ y of two values that are not negative, multiplied out.
pub cross : (x y : Float) → T (finite x) → T (finite y) → T (le zero32 x) → T (le x y) → over x * den y ≤ over y * den x
cross x y X Y h k =
    plain (over x) (under x) (den x) (over y) (under y) (den y) (nonneg_under x X h) (nonneg_under y Y (le_through zero32 x y h k)) (le→below x y X Y k)

-- The order x ≤ y of two values that are not positive, multiplied out.
pub cross_under : (x y : Float) → T (finite x) → T (finite y) → T (le y zero32) → T (le x y) → under y * den x ≤ under x * den y
cross_under x y X Y h k =
    plain_under (over x) (under x) (den x) (over y) (under y) (den y) (nonpos_over x X (le_through x y zero32 k h)) (nonpos_over y Y h) (le→below x y X Y k)

module _ (f : Format) {b d x y : Float} (B : T (finite b)) (D : T (finite d)) (i : In zero32 b x) where
  -- The product where neither factor is negative.
  pub in_mul_up : In zero32 d y → In zero32 (mul f b d) (mul f x y)
  in_mul_up j =
      let X = in_finite tt B i in
      let Y = in_finite tt D j in
      let b0 = le_through zero32 x b i.low i.high in
      let u = ap (λ (k : ℕ). over x * k * (den b * den d)) (nonneg_under y Y j.low) in
      let v = ap (λ (k : ℕ). over b * k * (den x * den y)) (nonneg_under d D (le_through zero32 y d j.low j.high)) in
      let p = pair (over x) (den x) (over y) (den y) (over b) (den b) (over d) (den d) (cross x b X B i.low i.high) (cross y d Y D j.low j.high) in
      record {
        low = mul_nonneg f x y X Y i.low j.low;
        high =
            rounds_mono f (over x * over y) (over x * under y) (den x * den y) (over b * over d) (over b * under d) (den b * den d) (mul f x y) (mul f b d) (dens x y) (dens b d)
            (product f x y X Y i.low) (product f b d B D b0) (omega arith);
      }

  -- The product where the second factor lies from d to zero.
  pub in_mul_down : In d zero32 y → In (mul f b d) zero32 (mul f x y)
  in_mul_down j =
      let X = in_finite tt B i in
      let Y = in_finite D tt j in
      let b0 = le_through zero32 x b i.low i.high in
      let u = ap (λ (k : ℕ). over x * k * (den b * den d)) (nonpos_over y Y j.high) in
      let v = ap (λ (k : ℕ). over b * k * (den x * den y)) (nonpos_over d D (le_through d y zero32 j.low j.high)) in
      let p = pair (over x) (den x) (under y) (den y) (over b) (den b) (under d) (den d) (cross x b X B i.low i.high) (cross_under d y D Y j.high j.low) in
      record {
        low =
            rounds_mono f (over b * over d) (over b * under d) (den b * den d) (over x * over y) (over x * under y) (den x * den y) (mul f b d) (mul f x y) (dens b d) (dens x y)
            (product f b d B D b0) (product f x y X Y i.low) (omega arith);
        high = mul_nonpos f x y X Y i.low j.high;
      }

  -- The quotient by a divisor that is at least d, which is above zero.
  pub in_div : {e : Float} → T (positive d) → T (positive e) → In d e y → In zero32 (div f b d) (div f x y)
  in_div {e} P E j =
      let Q = between d y e P E j.low j.high in
      let Y = positive-finite y Q in
      let X = in_finite tt B i in
      let b0 = le_through zero32 x b i.low i.high in
      let u = ap (λ (k : ℕ). k * den y * (over d * den b)) (nonneg_under x X i.low) in
      let v = ap (λ (k : ℕ). k * den d * (over y * den x)) (nonneg_under b B b0) in
      let w = ap (λ (k : ℕ). k * den y) (nonneg_under x X i.low) in
      let p = pair (over x) (den x) (over d) (den d) (over b) (den b) (over y) (den y) (cross x b X B i.low i.high) (cross d y (positive-finite d P) Y (positive_nonneg d P) j.low) in
      record {
        low =
            rounds_ge f (over x * den y) (under x * den y) (over y * den x) (div f x y) zero32 (mul-pos (over_pos y Q) (den_pos x)) (div_rounds f x y X Q) tt (zero_representable f) (omega arith);
        high =
            rounds_mono f (over x * den y) (under x * den y) (over y * den x) (over b * den d) (under b * den d) (over d * den b) (div f x y) (div f b d)
            (mul-pos (over_pos y Q) (den_pos x)) (mul-pos (over_pos d P) (den_pos b)) (div_rounds f x y X Q) (div_rounds f b d B P) (omega arith);
      }

-- ---- a square
up_square : (f : Format) (n : ℕ) (d : ℤ) (m : ℕ) (e : ℤ) → T (le (fin false m e) (fin false n d)) → In zero32 (mul f (fin false n d) (fin false n d)) (mul f (fin false m e) (fin false m e))
up_square f n d m e h =
    let i : In zero32 (fin false n d) (fin false m e) = record { low = below→le zero32 (fin false m e) tt tt (omega arith); high = h } in
    in_mul_up f {b = fin false n d} {d = fin false n d} tt tt i i

pub in_square : (f : Format) (n : ℕ) (d : ℤ) (x : Float) → In (fin true n d) (fin false n d) x → In zero32 (mul f (fin false n d) (fin false n d)) (mul f x x)
unfolding mul neg
in_square f n d nan i = absurd (le_left nan (fin false n d) i.high)
in_square f n d (inf s) i = absurd (in_finite {a = fin true n d} {b = fin false n d} tt tt i)
in_square f n d (fin false m e) i = up_square f n d m e i.high
in_square f n d (fin true m e) i = up_square f n d m e (le_neg (fin true n d) (fin true m e) i.low)
