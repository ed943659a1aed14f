-- The laws of `root_of` that callers use. A premise `T (le plus_zero x)` says that x is no NaN and not below zero: x is ±0, a positive number or
-- the infinity.
--   root_plus_zero  the root of +0 is +0 (and of -0, -0)
--   root_not_below  the root of what is not below zero is no NaN and not below zero
--   root_finite     the root of what is finite and not below zero is finite
--   root_mono       the root keeps the order
--   root_half       the root of what is at most 0.25 is at most 0.5
-- Assumes nothing.
use mathlib.Core.Path.{◌≡◌, refl, sym, ap, ◌∙◌, subst}
use mathlib.Core.Logic.{◌⊎◌, inl, inr}
use Prim.Native.Nat.{ℕ, zero, suc, ◌+◌, ◌*◌, ◌/◌, ◌^◌, ◌≤◌, ◌<◌}
use native.Mathlib.Nat.{le_of_eq, le_trans, lt_of_lt_of_le, lt_of_le_of_lt, lt_irrefl, zero-lt-suc, zero-mul, mul-pos, mul_right_comm, mul-le-mul_right}
use native.Mathlib.Omega.{arith}
use mathlib.Core.Bool.{Bool, true, false, ◌&&◌, ◌||◌, true≢false}
use lib.IntN.{ℤ, pos, negsuc}
use lib.Dec.{T, ltb, eqb, ltb→lt, lt→ltb, eqb→eq}
use lib.Pow.{pow_pos}
use lib.Ieee.{Float, nan, inf, fin, up, down, le}
use lib.Ieee.Fits.{up_pos, down_pos, and_l, and_r, and_i, eq→eqb}
use lib.Ieee.Exact.{HasValue}
use lib.Ieee.Nearest.{div_mono}
use lib.Ieee.Order.{le_of_values}
use lib.Ieee.Positive.{le→cross}
use lib.Ieee.Scale.{finite}
use Rattle.square_root.specs.Root.{root_of}
use Rattle.square_root.specs.Best.{plus_zero}
use Rattle.square_root.proofs.Values.{root_pos}
use Rattle.square_root.proofs.Monotone.{units, whole_value, units_mono}
use Rattle.square_root.proofs.Examples.{quarter}

pub root_plus_zero : (s : Bool) → root_of (fin s 0 (pos 0)) ≡ fin s 0 (pos 0)
unfolding root_of
root_plus_zero s = refl

-- ---- which comparisons fail, with the two magnitudes a and b as numbers
or_split : (a b : Bool) → T (a || b) → T a ⊎ T b
or_split true b t = inl tt
or_split false b t = inr t

or_l : (a b : Bool) → T a → T (a || b)
or_l true b t = tt
or_l false b t = absurd t

pub or_r : (a b : Bool) → T b → T (a || b)
or_r true b t = tt
or_r false b t = t

pub none : (u d : ℕ) → 0 * u * d ≡ 0
none u d = ap (λ (x : ℕ). x * d) (zero-mul u) ∙ zero-mul d

some : (m : ℕ) (e d : ℤ) → 0 < suc m * up e * down d
some m e d = mul-pos (mul-pos (zero-lt-suc m) (up_pos e)) (down_pos d)

differ : (a b : ℕ) (c : Bool) → a ≡ 0 → 0 < b → T (eqb a b && c) → ⊥
differ a b c z p t = lt_irrefl 0 (lt_of_lt_of_le p (le_of_eq (sym (eqb→eq a b (and_l (eqb a b) c t)) ∙ z)))

differ' : (a b : ℕ) (c : Bool) → b ≡ 0 → 0 < a → T (eqb a b && c) → ⊥
differ' a b c z p t = lt_irrefl 0 (lt_of_lt_of_le p (le_of_eq (eqb→eq a b (and_l (eqb a b) c t) ∙ z)))

not_less : (a b : ℕ) → b ≡ 0 → T (ltb a b) → ⊥
not_less a b z t = below a b z (ltb→lt a b t)
  where
    below : (a b : ℕ) → b ≡ 0 → a < b → ⊥
    below a b z h = omega arith

pub zero_over_negative : (s : Bool) (e : ℤ) (n : ℕ) (d : ℤ) → T (le (fin s zero e) (fin true (suc n) d)) → ⊥
unfolding le
zero_over_negative false e n d t = differ (0 * up e * down d) (suc n * up d * down e) (false || eqb (0 * up e * down d) 0) (none (up e) (down d)) (some n d e) t
zero_over_negative true e n d t =
    elim (or_split (ltb (suc n * up d * down e) (0 * up e * down d)) (eqb (0 * up e * down d) (suc n * up d * down e) && true) t) [
      | inl l ↦ not_less (suc n * up d * down e) (0 * up e * down d) (none (up e) (down d)) l
      | inr q ↦ differ (0 * up e * down d) (suc n * up d * down e) true (none (up e) (down d)) (some n d e) q
    ]

positive_under_zero : (m : ℕ) (e : ℤ) (t : Bool) (d : ℤ) → T (le (fin false (suc m) e) (fin t zero d)) → ⊥
unfolding le
positive_under_zero m e true d t = differ' (suc m * up e * down d) (0 * up d * down e) (false || eqb (suc m * up e * down d) 0) (none (up d) (down e)) (some m e d) t
positive_under_zero m e false d t =
    elim (or_split (ltb (suc m * up e * down d) (0 * up d * down e)) (eqb (suc m * up e * down d) (0 * up d * down e) && true) t) [
      | inl l ↦ not_less (suc m * up e * down d) (0 * up d * down e) (none (up d) (down e)) l
      | inr q ↦ differ' (suc m * up e * down d) (0 * up d * down e) true (none (up d) (down e)) (some m e d) q
    ]

positive_under_negative : (m : ℕ) (e : ℤ) (n : ℕ) (d : ℤ) → T (le (fin false (suc m) e) (fin true (suc n) d)) → ⊥
unfolding le
positive_under_negative m e n d t =
    lt_irrefl 0 (lt_of_lt_of_le (some m e d) (le_of_eq (eqb→eq (suc m * up e * down d) 0 (and_r (eqb (suc m * up e * down d) (suc n * up d * down e)) (eqb (suc m * up e * down d) 0) t))))

-- A zero of either sign is not above a value that is not negative.
zero_under : (s : Bool) (e : ℤ) (z : Float) (a c : ℕ) → HasValue z false a c → T (le (fin s zero e) z)
unfolding le
zero_under s e nan a c v = absurd v
zero_under s e (inf t) a c v = absurd v
zero_under s e (fin true n d) a c v = absurd (true≢false v.0)
zero_under false e (fin false zero d) a c v =
    or_r (ltb (0 * up e * down d) (0 * up d * down e)) (eqb (0 * up e * down d) (0 * up d * down e) && true)
    (and_i (eqb (0 * up e * down d) (0 * up d * down e)) true (eq→eqb (none (up e) (down d) ∙ sym (none (up d) (down e)))) tt)
zero_under false e (fin false (suc n) d) a c v =
    or_l (ltb (0 * up e * down d) (suc n * up d * down e)) (eqb (0 * up e * down d) (suc n * up d * down e) && true)
    (lt→ltb (0 * up e * down d) (suc n * up d * down e) (lt_of_le_of_lt (le_of_eq (none (up e) (down d))) (some n d e)))
zero_under true e (fin false zero d) a c v =
    or_r (ltb 0 (0 * up e * down d + 0 * up d * down e)) (eqb (0 * up e * down d) (0 * up d * down e) && eqb (0 * up e * down d) 0)
    (and_i (eqb (0 * up e * down d) (0 * up d * down e)) (eqb (0 * up e * down d) 0) (eq→eqb (none (up e) (down d) ∙ sym (none (up d) (down e)))) (eq→eqb (none (up e) (down d))))
zero_under true e (fin false (suc n) d) a c v =
    or_l (ltb 0 (0 * up e * down d + suc n * up d * down e)) (eqb (0 * up e * down d) (suc n * up d * down e) && eqb (0 * up e * down d) 0)
    (lt→ltb 0 (0 * up e * down d + suc n * up d * down e) (more (0 * up e * down d) (suc n * up d * down e) (some n d e)))
  where
    more : (a b : ℕ) → 0 < b → 0 < a + b
    more a b h = omega arith

-- ---- not below zero
root_has_value : (m : ℕ) (e : ℤ) → HasValue (root_of (fin false (suc m) e)) false (units (suc m * up e * 2 ^ 298 / down e)) (2 ^ 149)
root_has_value m e = subst (λ (x : Float). HasValue x false (units (suc m * up e * 2 ^ 298 / down e)) (2 ^ 149)) (sym (root_pos m e)) (whole_value (suc m * up e * 2 ^ 298 / down e))

root_same : (s : Bool) (e : ℤ) → root_of (fin s zero e) ≡ fin s zero e
unfolding root_of
root_same s e = refl

root_inf : root_of (inf false) ≡ inf false
unfolding root_of
root_inf = refl

below_nan : (x : Float) → T (le x nan) → ⊥
unfolding le
below_nan nan t = t
below_nan (inf s) t = t
below_nan (fin s m e) t = t

zero_over_inf : T (le plus_zero (inf true)) → ⊥
unfolding le
zero_over_inf t = t

pub root_not_below : (x : Float) → T (le plus_zero x) → T (le plus_zero (root_of x))
root_not_below nan h = absurd (below_nan plus_zero h)
root_not_below (inf true) h = absurd (zero_over_inf h)
root_not_below (inf false) h = subst (λ (y : Float). T (le plus_zero y)) (sym root_inf) h
root_not_below (fin s zero e) h = subst (λ (y : Float). T (le plus_zero y)) (sym (root_same s e)) h
root_not_below (fin true (suc m) e) h = absurd (zero_over_negative false (pos 0) m e h)
root_not_below (fin false (suc m) e) h = zero_under false (pos 0) (root_of (fin false (suc m) e)) (units (suc m * up e * 2 ^ 298 / down e)) (2 ^ 149) (root_has_value m e)

finite_of_value : (x : Float) (a c : ℕ) → HasValue x false a c → T (finite x)
finite_of_value nan a c v = v
finite_of_value (inf s) a c v = v
finite_of_value (fin s m e) a c v = tt

pub root_finite : (x : Float) → T (finite x) → T (le plus_zero x) → T (finite (root_of x))
root_finite nan f h = absurd f
root_finite (inf s) f h = absurd f
root_finite (fin s zero e) f h = subst (λ (y : Float). T (finite y)) (sym (root_same s e)) tt
root_finite (fin true (suc m) e) f h = absurd (zero_over_negative false (pos 0) m e h)
root_finite (fin false (suc m) e) f h = finite_of_value (root_of (fin false (suc m) e)) (units (suc m * up e * 2 ^ 298 / down e)) (2 ^ 149) (root_has_value m e)

-- ---- order
under_inf : (x : Float) → T (le plus_zero x) → T (le x (inf false))
unfolding le
under_inf nan h = absurd h
under_inf (inf true) h = absurd h
under_inf (inf false) h = tt
under_inf (fin s m e) h = tt

over_negative_inf : (x : Float) → T (le plus_zero x) → T (le x (inf true)) → ⊥
unfolding le
over_negative_inf nan h k = k
over_negative_inf (inf true) h k = h
over_negative_inf (inf false) h k = k
over_negative_inf (fin s m e) h k = k

inf_under_finite : (s : Bool) (m : ℕ) (e : ℤ) → T (le (inf false) (fin s m e)) → ⊥
unfolding le
inf_under_finite s m e t = t

whole_mono : (m : ℕ) (e : ℤ) (n : ℕ) (d : ℤ) → T (le (fin false (suc m) e) (fin false (suc n) d)) → suc m * up e * 2 ^ 298 / down e ≤ suc n * up d * 2 ^ 298 / down d
whole_mono m e n d h =
    div_mono (suc m * up e * 2 ^ 298) (down e) (suc n * up d * 2 ^ 298) (down d) (down_pos e) (down_pos d)
    (le_trans (le_of_eq (mul_right_comm (suc m * up e) (2 ^ 298) (down d)))
    (le_trans (mul-le-mul_right (2 ^ 298) (le→cross (fin false (suc m) e) (fin false (suc n) d) (lt→ltb 0 (suc m) (zero-lt-suc m)) (lt→ltb 0 (suc n) (zero-lt-suc n)) h))
    (le_of_eq (mul_right_comm (suc n * up d) (down e) (2 ^ 298)))))

pub root_mono : (x y : Float) → T (le plus_zero x) → T (le x y) → T (le (root_of x) (root_of y))
root_mono x nan h k = absurd (below_nan x k)
root_mono x (inf true) h k = absurd (over_negative_inf x h k)
root_mono x (inf false) h k = subst (λ (y : Float). T (le (root_of x) y)) (sym root_inf) (under_inf (root_of x) (root_not_below x h))
root_mono nan (fin t n d) h k = absurd (below_nan plus_zero h)
root_mono (inf true) (fin t n d) h k = absurd (zero_over_inf h)
root_mono (inf false) (fin t n d) h k = absurd (inf_under_finite t n d k)
root_mono (fin true (suc m) e) (fin t n d) h k = absurd (zero_over_negative false (pos 0) m e h)
root_mono (fin s zero e) (fin t zero d) h k = subst (λ (x : Float). T (le x (root_of (fin t zero d)))) (sym (root_same s e)) (subst (λ (y : Float). T (le (fin s zero e) y)) (sym (root_same t d)) k)
root_mono (fin s zero e) (fin true (suc n) d) h k = absurd (zero_over_negative s e n d k)
root_mono (fin s zero e) (fin false (suc n) d) h k =
    subst (λ (x : Float). T (le x (root_of (fin false (suc n) d)))) (sym (root_same s e))
    (zero_under s e (root_of (fin false (suc n) d)) (units (suc n * up d * 2 ^ 298 / down d)) (2 ^ 149) (root_has_value n d))
root_mono (fin false (suc m) e) (fin t zero d) h k = absurd (positive_under_zero m e t d k)
root_mono (fin false (suc m) e) (fin true (suc n) d) h k = absurd (positive_under_negative m e n d k)
root_mono (fin false (suc m) e) (fin false (suc n) d) h k =
    le_of_values (root_of (fin false (suc m) e)) (root_of (fin false (suc n) d))
    (units (suc m * up e * 2 ^ 298 / down e)) (2 ^ 149) (units (suc n * up d * 2 ^ 298 / down d)) (2 ^ 149) (pow_pos 149) (pow_pos 149) (root_has_value m e) (root_has_value n d)
    (mul-le-mul_right (2 ^ 149) (units_mono (suc m * up e * 2 ^ 298 / down e) (suc n * up d * 2 ^ 298 / down d) (whole_mono m e n d k)))

-- The root of what is at most 0.25 is at most 0.5.
pub root_half : (x : Float) → T (le plus_zero x) → T (le x (fin false 1 (negsuc 1))) → T (le (root_of x) (fin false 1 (negsuc 0)))
root_half x h k = subst (λ (y : Float). T (le (root_of x) y)) quarter (root_mono x (fin false 1 (negsuc 1)) h k)
