-- The root keeps the order: of two whole numbers w the larger has the larger rounded root, or an equal one. This holds for every w, so nothing
-- is asked of the floats. Assumes nothing.
use mathlib.Core.Path.{◌≡◌, sym, ap, ◌∙◌, subst}
use mathlib.Core.Logic.{◌⊎◌, inl, inr}
use Prim.Native.Nat.{ℕ, zero, suc, ◌+◌, ◌-◌, ◌*◌, ◌/◌, ◌^◌, ◌≤◌, ◌<◌, zero-le, suc-le-suc}
use native.Mathlib.Nat.{le_refl, le_of_eq, le_trans, le-suc, lt_of_lt_of_le, lt_of_le_of_lt, eq-or-lt_of_le, le_of_suc-le-suc, lt-suc_self, mul_assoc, mul-le-mul_left, mul-le-mul_right, mul-lt-mul_of_pos_right, pow-succ'}
use native.Mathlib.Omega.{arith}
use mathlib.Core.Bool.{Bool, true, false, cond}
use lib.Dec.{T, lt→ltb, ltb→lt, lit≤}
use lib.Pow.{pow-add, pow_mono}
use lib.Ieee.{size}
use lib.Ieee.Digits.{size-lt, size-le, size_reaches}
use lib.Ieee.Exact.{HasValue, odd_sign}
use Rattle.square_root.specs.Root.{count, mid_below, nearest_root}
use Rattle.square_root.proofs.Squares.{sq_mono}
use Rattle.square_root.proofs.Count.{count_suc, count_zero, four_pos}
use Rattle.square_root.proofs.Values.{of_whole, four_pow}

-- ---- counting
step_le : (b c : Bool) (m n : ℕ) → (T b → T c) → m ≤ n → cond b (suc m) m ≤ cond c (suc n) n
step_le true true m n f h = suc-le-suc h
step_le true false m n f h = absurd (f tt)
step_le false true m n f h = le_trans h (le-suc n)
step_le false false m n f h = h

count_mono : (p r : ℕ → Bool) (n : ℕ) → ((k : ℕ) → T (p k) → T (r k)) → count p n ≤ count r n
count_mono p r zero f = le_of_eq (count_zero p ∙ sym (count_zero r))
count_mono p r (suc n) f = rw (count_suc p n, count_suc r n) (step_le (p n) (r n) (count p n) (count r n) (f n) (count_mono p r n f))

count_le : (p : ℕ → Bool) (n : ℕ) → count p n ≤ n
count_le p zero = le_of_eq (count_zero p)
count_le p (suc n) = rw (count_suc p n) (step_le (p n) true (count p n) n (λ _. tt) (count_le p n))

-- Where the first j numbers pass the test, the count is at least j.
count_ge : (p : ℕ → Bool) (j n : ℕ) → j ≤ n → ((k : ℕ) → k < j → T (p k)) → j ≤ count p n
count_ge p j zero l f = le_trans l zero-le
count_ge p j (suc n) l f = rw (count_suc p n) (go (eq-or-lt_of_le l) (λ (h : j ≤ n). count_ge p j n h f) (λ (e : j ≡ suc n). count_ge p n n (le_refl n) (λ k h. f k (subst (λ (x : ℕ). k < x) (sym e) (le_trans h (le-suc n))))))
  where
    grow : (b : Bool) (m : ℕ) → m ≤ cond b (suc m) m
    grow true m = le-suc m
    grow false m = le_refl m

    add : (b : Bool) (m : ℕ) → T b → suc m ≤ cond b (suc m) m
    add true m t = le_refl (suc m)
    add false m t = absurd t

    go : (j ≡ suc n) ⊎ (j < suc n) → (j ≤ n → j ≤ count p n) → (j ≡ suc n → n ≤ count p n) → j ≤ cond (p n) (suc (count p n)) (count p n)
    go (inl e) less at = le_trans (le_of_eq e) (le_trans (suc-le-suc (at e)) (add (p n) (count p n) (f n (subst (λ (x : ℕ). n < x) (sym e) (lt-suc_self n)))))
    go (inr h) less at = le_trans (less (le_of_suc-le-suc h)) (grow (p n) (count p n))

-- ---- the nearest root
nearest_mono : (w v d : ℕ) → w ≤ v → nearest_root w d ≤ nearest_root v d
unfolding nearest_root
nearest_mono w v d h = count_mono (mid_below w d) (mid_below v d) 16777216
    (λ k t. lt→ltb ((2 * k + 1) * (2 * k + 1) * 4 ^ d) (4 * v) (lt_of_lt_of_le (ltb→lt ((2 * k + 1) * (2 * k + 1) * 4 ^ d) (4 * w) t) (mul-le-mul_left 4 h)))

nearest_le : (w d : ℕ) → nearest_root w d ≤ 16777216
unfolding nearest_root
nearest_le w d = count_le (mid_below w d) 16777216

-- The nearest root has 24 binary digits where w has 47 + 2 * d binary digits or more.
nearest_ge : (w d : ℕ) → 70368744177664 * 4 ^ d ≤ w → 8388608 ≤ nearest_root w d
unfolding nearest_root
nearest_ge w d h = count_ge (mid_below w d) 8388608 16777216 (lit≤ tt)
    (λ k l. lt→ltb ((2 * k + 1) * (2 * k + 1) * 4 ^ d) (4 * w)
    (lt_of_lt_of_le (mul-lt-mul_of_pos_right (small k l (sq_mono (2 * k + 1) 16777215 (omega arith))) (four_pos d)) (le_trans (le_of_eq (mul_assoc 4 70368744177664 (4 ^ d))) (mul-le-mul_left 4 h))))
  where
    small : (k : ℕ) → k < 8388608 → (2 * k + 1) * (2 * k + 1) ≤ 16777215 * 16777215 → (2 * k + 1) * (2 * k + 1) < 4 * 70368744177664
    small k l s = omega arith

-- ---- the root of w in units of the smallest value, q * 2 ^ d
abbrev pub exponent : ℕ → ℕ
exponent w = (size w - 47) / 2

abbrev pub units : ℕ → ℕ
units w = nearest_root w (exponent w) * 2 ^ exponent w

size_mono : (a b : ℕ) → a ≤ b → size a ≤ size b
size_mono a b h = size-le a (size b) (lt_of_le_of_lt h (size-lt b))

reached : (w : ℕ) → 0 < exponent w → 70368744177664 * 4 ^ exponent w ≤ w
reached w h =
    le_trans (le_of_eq (ap (λ (x : ℕ). 70368744177664 * x) (four_pow (exponent w)) ∙ sym (pow-add 2 46 (exponent w + exponent w))))
    (size_reaches w (46 + (exponent w + exponent w)) (room (size w) h))
  where
    room : (z : ℕ) → 0 < (z - 47) / 2 → 46 + ((z - 47) / 2 + (z - 47) / 2) < z
    room z h = omega arith

exponent_mono : (a b : ℕ) → a ≤ b → (a - 47) / 2 ≤ (b - 47) / 2
exponent_mono a b h = omega arith

pub units_mono : (w v : ℕ) → w ≤ v → units w ≤ units v
units_mono w v h = go (eq-or-lt_of_le (exponent_mono (size w) (size v) (size_mono w v h)))
  where
    go : (exponent w ≡ exponent v) ⊎ (exponent w < exponent v) → units w ≤ units v
    go (inl e) = subst (λ (d : ℕ). nearest_root w d * 2 ^ d ≤ units v) (sym e) (mul-le-mul_right (2 ^ exponent v) (nearest_mono w v (exponent v) h))
    go (inr l) =
        le_trans (mul-le-mul_right (2 ^ exponent w) (nearest_le w (exponent w)))
        (le_trans (le_of_eq (mul_assoc 8388608 2 (2 ^ exponent w) ∙ ap (λ (x : ℕ). 8388608 * x) (sym (pow-succ' 2 (exponent w)))))
        (le_trans (mul-le-mul_left 8388608 (pow_mono l)) (mul-le-mul_right (2 ^ exponent v) (nearest_ge v (exponent v) (reached v (lt_of_le_of_lt zero-le l))))))

pub whole_value : (w : ℕ) → HasValue (of_whole w) false (units w) (2 ^ 149)
unfolding of_whole
whole_value w = odd_sign 24 false (nearest_root w (exponent w)) (exponent w) 149
