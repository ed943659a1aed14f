-- What the comparisons in `sqrt` say of x, and what `root_of` is where no root is worked out. Assumes nothing.
use mathlib.Core.Path.{◌≡◌, refl, sym, ◌∙◌, subst}
use Prim.Native.Nat.{ℕ, zero, suc, ◌*◌, ◌<◌, zero-le}
use native.Mathlib.Nat.{le_of_eq, lt_of_le_of_lt, lt_of_lt_of_le, lt_irrefl, zero-lt-suc, mul-pos}
use mathlib.Core.Bool.{Bool, true, false, not, ◌&&◌, ◌||◌, beq, true≢false, false≢true}
use lib.IntN.{ℤ}
use lib.Dec.{T, ltb, eqb, ltb→lt, lt→ltb, eqb→eq}
use lib.Ieee.{Float, nan, inf, fin, binary32, up, down, lt, eq, fits, is_nan, of_bits, to_bits}
use lib.Ieee.Bits.{is_true, of_bits-to_bits}
use lib.Ieee.Fits.{up_pos, and_l, and_i, eq→eqb}
use lib.Ieee.Positive.{positive, first_pos}
use Rattle.square_root.specs.Root.{root_of}
use Rattle.square_root.specs.Best.{plus_zero}
use Rattle.square_root.proofs.Patterns.{below_inf, above_nothing}
use Rattle.square_root.proofs.Laws.{or_r, none}

-- A test that came out true holds.
holds : {b : Bool} → b ≡ true → T b
holds e = subst T (sym e) tt

size_pos : (m : ℕ) (e : ℤ) → 0 < suc m * up e * 1
size_pos m e = mul-pos (mul-pos (zero-lt-suc m) (up_pos e)) (zero-lt-suc 0)

above_plus_zero : (m : ℕ) (e : ℤ) → lt plus_zero (fin false (suc m) e) ≡ true
unfolding lt
above_plus_zero m e = is_true (ltb (0 * 1 * down e) (suc m * up e * 1)) (lt→ltb (0 * 1 * down e) (suc m * up e * 1) (lt_of_le_of_lt (le_of_eq (none 1 (down e))) (size_pos m e)))

pub is_positive : (x : Float) → lt plus_zero x ≡ true → lt x (inf false) ≡ true → T (positive x)
unfolding lt
is_positive nan a b = absurd (false≢true a)
is_positive (inf true) a b = absurd (false≢true a)
is_positive (inf false) a b = absurd (false≢true b)
is_positive (fin true m e) a b = absurd (false≢true a)
is_positive (fin false m e) a b =
    lt→ltb 0 m (first_pos m (up e) (first_pos (m * up e) 1 (lt_of_le_of_lt zero-le (ltb→lt (0 * 1 * down e) (m * up e * 1) (holds a)))))

pub root_inf : (x : Float) → lt plus_zero x ≡ true → lt x (inf false) ≡ false → x ≡ root_of x
unfolding lt root_of
root_inf nan a b = absurd (false≢true a)
root_inf (inf true) a b = absurd (false≢true a)
root_inf (inf false) a b = refl
root_inf (fin s m e) a b = absurd (true≢false b)

pub root_zero : (x : Float) → eq x plus_zero ≡ true → x ≡ root_of x
unfolding eq root_of
root_zero nan a = absurd (false≢true a)
root_zero (inf s) a = absurd (false≢true a)
root_zero (fin s zero e) a = refl
root_zero (fin s (suc m) e) a =
    absurd (lt_irrefl 0 (lt_of_lt_of_le (size_pos m e)
    (le_of_eq (eqb→eq (suc m * up e * 1) (0 * 1 * down e) (and_l (eqb (suc m * up e * 1) (0 * 1 * down e)) (beq s false || eqb (suc m * up e * 1) 0) (holds a)) ∙ none 1 (down e)))))

zero_equal : (s : Bool) (e : ℤ) → eq (fin s zero e) plus_zero ≡ true
unfolding eq
zero_equal s e =
    is_true (eqb (0 * up e * 1) (0 * 1 * down e) && (beq s false || eqb (0 * up e * 1) 0))
    (and_i (eqb (0 * up e * 1) (0 * 1 * down e)) (beq s false || eqb (0 * up e * 1) 0)
    (eq→eqb (none (up e) 1 ∙ sym (none 1 (down e))))
    (or_r (beq s false) (eqb (0 * up e * 1) 0) (eq→eqb (none (up e) 1))))

inf_above : lt plus_zero (inf false) ≡ true
unfolding lt
inf_above = refl

-- An x that is neither above zero nor a zero is negative or a NaN, so its root is a NaN.
pub root_none : (x : Float) → lt plus_zero x ≡ false → eq x plus_zero ≡ false → nan ≡ root_of x
unfolding root_of
root_none nan a b = refl
root_none (inf true) a b = refl
root_none (inf false) a b = absurd (true≢false (sym inf_above ∙ a))
root_none (fin s zero e) a b = absurd (true≢false (sym (zero_equal s e) ∙ b))
root_none (fin true (suc m) e) a b = refl
root_none (fin false (suc m) e) a b = absurd (true≢false (sym (above_plus_zero m e) ∙ a))

-- ---- what `above_zero` asks
pub positive_no_nan : (x : Float) → T (positive x) → T (not (is_nan x))
unfolding is_nan
positive_no_nan nan p = absurd p
positive_no_nan (inf s) p = tt
positive_no_nan (fin s m e) p = tt

pub pattern_range : (x : Float) → T (fits binary32 x) → T (positive x) → (0 < to_bits binary32 x) × (to_bits binary32 x < 2139095040)
pattern_range x F p =
    let q : T (positive (of_bits binary32 (to_bits binary32 x))) = subst (λ (v : Float). T (positive v)) (sym (of_bits-to_bits binary32 x F)) p in
    (above_nothing (to_bits binary32 x) q, below_inf (to_bits binary32 x) q)
