-- `root_of` is the square root, rounded to the nearest: for every `f32` x above 0, `root_of x` is an `f32`, and √x is nearer to it than to any other `f32` z (`root_nearest`).
-- The distances are equal nowhere, so no rule for ties is needed. Assumes nothing.
use mathlib.Core.Path.{◌≡◌, refl, sym, ap, ◌∙◌, subst}
use mathlib.Core.Logic.{◌⊎◌, inl, inr}
use Prim.Native.Nat.{ℕ, zero, suc, ◌+◌, ◌-◌, ◌*◌, ◌/◌, ◌%◌, ◌^◌, ◌≤◌, ◌<◌}
use native.Mathlib.Nat.{le_of_eq, le_of_lt, le_trans, lt_irrefl, lt_of_lt_of_le, lt_of_le_of_lt, lt_of_not-le, not-le_of_lt, eq-or-lt_of_le, mul_assoc, mul_right_comm, mul-mul-mul_comm, mul-pos, add-mul, mul-le-mul_left, mul-le-mul_right, mul-lt-mul_of_pos_right, lt_of_mul-lt-mul_right, mul-div_cancel, zero-lt-suc, zero-mul, zero-div, pow-succ'}
use native.Mathlib.Omega.{arith}
use mathlib.Core.Bool.{Bool, true, false, not}
use lib.Dec.{T, ltb, ltb→lt, lt→ltb, nltb→le}
use lib.Count.{count_leading_zeros}
use lib.Pow.{pow-add, pow_pos, pow_mono, shl_lt}
use lib.IntN.{ℤ, pos}
use lib.Ieee.{Float, nan, inf, fin, binary32, up, down, fits, le, odd, of_bits, to_bits}
use lib.Ieee.Scale.{finite}
use lib.Ieee.Bits.{of_bits-to_bits}
use lib.Ieee.Fits.{odd-fits}
use lib.Ieee.Exact.{HasValue, odd_sign}
use lib.Ieee.Positive.{positive, num, den, den_pos, value→cross, positive_of_value}
use Rattle.square_root.specs.Root.{root_of}
use Rattle.square_root.specs.Best.{plus_zero, grid, fine, Nearer, NoneNearer}
use Rattle.square_root.specs.Steps.{Nearest}
use Rattle.square_root.proofs.Squares.{sq_mono, sq_next, sq_gap, sq_odd, root_low, mids_below}
use Rattle.square_root.proofs.Count.{four_pos}
use Rattle.square_root.proofs.Patterns.{normal_is, subnormal_is}
use Rattle.square_root.proofs.Values.{four_pow, scaled, doubled, in_range, Shape, shape_root, normal_shape, small_shape, moved}
use Rattle.square_root.proofs.Cases.{pattern_range}
use Rattle.square_root.proofs.Laws.{zero_over_negative}

grid_is : (z : Float) (a : ℕ) → HasValue z false a (2 ^ 149) → grid z ≡ a
grid_is z a v = ap (λ (x : ℕ). x / den z) (value→cross z a (2 ^ 149) v) ∙ mul-div_cancel a (den_pos z)

fine_is : (x : Float) (a : ℕ) → HasValue x false a (2 ^ 149) → fine x ≡ a * 2 ^ 149
fine_is x a v =
    ap (λ (t : ℕ). t / den x)
    (ap (λ (t : ℕ). num x * t) (pow-add 2 149 149)
    ∙ sym (mul_assoc (num x) (2 ^ 149) (2 ^ 149))
    ∙ ap (λ (t : ℕ). t * 2 ^ 149) (value→cross x a (2 ^ 149) v)
    ∙ mul_right_comm a (den x) (2 ^ 149))
    ∙ mul-div_cancel (a * 2 ^ 149) (den_pos x)

-- ---- there is a nearest root
either : (a b : ℕ) → (a < b) ⊎ (b ≤ a)
either a b = go (ltb a b) refl
  where
    go : (t : Bool) → ltb a b ≡ t → (a < b) ⊎ (b ≤ a)
    go true e = inl (ltb→lt a b (subst T (sym e) tt))
    go false e = inr (nltb→le a b (subst (λ (x : Bool). T (not x)) (sym e) tt))

abbrev Near : ℕ → ℕ → Type 0
Near n q = (q * q < n + q) × (n ≤ q * q + q)

exists : (n : ℕ) → (q : ℕ) × Near (suc n) q
exists zero = (1, (omega arith, omega arith))
exists (suc n) = go (exists n)
  where
    go : (q : ℕ) × Near (suc n) q → (q : ℕ) × Near (suc (suc n)) q
    go (q, (l, u)) = elim (eq-or-lt_of_le u) [
      | inl e ↦ (q + 1, (omega (arith, sq_next q), omega (arith, sq_next q)))
      | inr h ↦ (q, (omega arith, omega arith))
    ]

root_high : (n q : ℕ) → n ≤ 281474959933440 → q * q < n + q → q < 16777216
root_high n q u h = lt_of_not-le (λ (g : 16777216 ≤ q). clash (sq_gap 16777216 q g))
  where
    clash : 16777216 * 16777216 + q ≤ q * q + 16777216 → ⊥
    clash s = omega arith

nearest_of : (n : ℕ) → 70368744177664 ≤ n → n ≤ 281474959933440 → (q : ℕ) × Nearest n q
nearest_of zero l u = absurd (not-le_of_lt (omega arith) l)
nearest_of (suc n) l u =
    let e = exists n in
    (e.0, record { above = e.1.0; below = e.1.1; low = root_low (suc n) e.0 l e.1.1; high = root_high (suc n) e.0 u e.1.0 })

-- ---- squares of multiples of 2 ^ d
sq_pow : (c d : ℕ) → c * 2 ^ d * (c * 2 ^ d) ≡ c * c * 4 ^ d
sq_pow c d = mul-mul-mul_comm c (2 ^ d) c (2 ^ d) ∙ ap (λ (x : ℕ). c * c * x) (sym (pow-add 2 d d) ∙ sym (four_pow d))

sq_lt : (a b : ℕ) → a < b → a * a < b * b
sq_lt a b h = lt_of_lt_of_le (omega (arith, sq_next a)) (sq_mono (a + 1) b (omega arith))

-- ---- a value of 24 digits that is 2 ^ (23 + d) or more is a multiple of 2 ^ d
multiple : (m f d : ℕ) → m < 16777216 → 8388608 * 2 ^ d ≤ m * 2 ^ f → (k : ℕ) × (m * 2 ^ f ≡ k * 2 ^ d)
multiple m f d u h = elim (either f d) [
  | inl l ↦
      absurd (lt_irrefl (m * 2 ^ f)
      (lt_of_lt_of_le (mul-lt-mul_of_pos_right u (pow_pos f))
      (le_trans (le_of_eq (mul_assoc 8388608 2 (2 ^ f) ∙ ap (λ (x : ℕ). 8388608 * x) (sym (pow-succ' 2 f)))) (le_trans (mul-le-mul_left 8388608 (pow_mono l)) h))))
  | inr l ↦ (m * 2 ^ (f - d), ap (λ (x : ℕ). m * 2 ^ x) (join f d l) ∙ ap (λ (x : ℕ). m * x) (pow-add 2 (f - d) d) ∙ sym (mul_assoc m (2 ^ (f - d)) (2 ^ d)))
]
  where
    join : (f d : ℕ) → d ≤ f → f ≡ f - d + d
    join f d l = omega arith

-- ---- the distances, by twice the root and the sum
module _ (n q d m f : ℕ) (near : Nearest n q) (low : 70368744177664 ≤ n) (small : m < 16777216) where
  -- a sum below c * 2 ^ d with c² ≤ 4 * n
  under : (c s : ℕ) → c * c ≤ 4 * n → s < c * 2 ^ d → s * s < 4 * (n * 4 ^ d)
  under c s h l =
      lt_of_lt_of_le (sq_lt s (c * 2 ^ d) l)
      (le_trans (le_of_eq (sq_pow c d)) (le_trans (mul-le-mul_right (4 ^ d) h) (le_of_eq (mul_assoc 4 n (4 ^ d)))))

  below_mid : (q : ℕ) → 0 < q → (2 * (q - 1) + 1) * (2 * (q - 1) + 1) < 4 * n → (q + q - 1) * (q + q - 1) < 4 * n
  below_mid q p h = subst (λ (x : ℕ). x * x < 4 * n) (even q p) h
    where
      even : (q : ℕ) → 0 < q → 2 * (q - 1) + 1 ≡ q + q - 1
      even q p = omega arith

  mid : (q + q - 1) * (q + q - 1) < 4 * n
  mid = below_mid q (omega (arith, near.low)) (mids_below n q (q - 1) near.above (omega (arith, near.low)))

  -- up to the first value of 24 digits
  short : (8388608 + q) * (8388608 + q) ≤ 4 * n
  short = elim (eq-or-lt_of_le near.low) [
    | inl e ↦ subst (λ (x : ℕ). (8388608 + x) * (8388608 + x) ≤ 4 * n) e (mul-le-mul_left 4 low)
    | inr l ↦ le_trans (sq_mono (8388608 + q) (q + q - 1) (omega arith)) (le_of_lt mid)
  ]

  smaller : m * 2 ^ f < q * 2 ^ d → (m * 2 ^ f + q * 2 ^ d) * (m * 2 ^ f + q * 2 ^ d) < 4 * (n * 4 ^ d)
  smaller h = elim (either (m * 2 ^ f) (8388608 * 2 ^ d)) [
    | inl l ↦ under (8388608 + q) (m * 2 ^ f + q * 2 ^ d) short (lt_of_lt_of_le (plus (m * 2 ^ f) (8388608 * 2 ^ d) (q * 2 ^ d) l) (le_of_eq (sym (add-mul 8388608 q (2 ^ d)))))
    | inr g ↦
        let k = multiple m f d small g in
        let less : k.0 < q = lt_of_mul-lt-mul_right (2 ^ d) (subst (λ (x : ℕ). x < q * 2 ^ d) k.1 h) in
        subst (λ (x : ℕ). (x + q * 2 ^ d) * (x + q * 2 ^ d) < 4 * (n * 4 ^ d)) (sym k.1)
        (lt_of_le_of_lt
        (le_trans (le_of_eq (ap (λ (x : ℕ). x * x) (sym (add-mul k.0 q (2 ^ d))) ∙ sq_pow (k.0 + q) d)) (mul-le-mul_right (4 ^ d) (sq_mono (k.0 + q) (q + q - 1) (omega arith))))
        (lt_of_lt_of_le (mul-lt-mul_of_pos_right mid (four_pos d)) (le_of_eq (mul_assoc 4 n (4 ^ d)))))
  ]
    where
      plus : (a b c : ℕ) → a < b → a + c < b + c
      plus a b c l = omega arith

  larger : q * 2 ^ d < m * 2 ^ f → 4 * (n * 4 ^ d) < (m * 2 ^ f + q * 2 ^ d) * (m * 2 ^ f + q * 2 ^ d)
  larger h =
      let k = multiple m f d small (le_trans (mul-le-mul_right (2 ^ d) near.low) (le_of_lt h)) in
      let more : q < k.0 = lt_of_mul-lt-mul_right (2 ^ d) (subst (λ (x : ℕ). q * 2 ^ d < x) k.1 h) in
      subst (λ (x : ℕ). 4 * (n * 4 ^ d) < (x + q * 2 ^ d) * (x + q * 2 ^ d)) (sym k.1)
      (lt_of_lt_of_le (lt_of_le_of_lt (le_of_eq (sym (mul_assoc 4 n (4 ^ d)))) (mul-lt-mul_of_pos_right (omega (arith, sq_odd q, near.below)) (four_pos d)))
      (le_trans (mul-le-mul_right (4 ^ d) (sq_mono (2 * q + 1) (k.0 + q) (omega arith))) (le_of_eq (sym (ap (λ (x : ℕ). x * x) (sym (add-mul k.0 q (2 ^ d))) ∙ sq_pow (k.0 + q) d)))))

-- ---- the digits of a value that fits
digits_of : (z : Float) → T (fits binary32 z) → T (positive z) → (m : ℕ) × (f : ℕ) × (m < 16777216) × (grid z ≡ m * 2 ^ f)
digits_of z F p =
    let b = to_bits binary32 z in
    let r = pattern_range z F p in
    let is : of_bits binary32 b ≡ z = of_bits-to_bits binary32 z F in
    let at : (m f : ℕ) → of_bits binary32 b ≡ odd 24 false m f 149 → grid z ≡ m * 2 ^ f = λ m f e. grid_is z (m * 2 ^ f) (subst (λ (x : Float). HasValue x false (m * 2 ^ f) (2 ^ 149)) (sym e ∙ is) (odd_sign 24 false m f 149)) in
    elim (either b 8388608) [
      | inl l ↦ (b, 0, omega arith, at b 0 (subnormal_is b l))
      | inr l ↦ (8388608 + b % 8388608, b / 8388608 - 1, omega arith, at (8388608 + b % 8388608) (b / 8388608 - 1) (normal_is b l r.1))
    ]

zero_grid : (s : Bool) (e : ℤ) → grid (fin s zero e) ≡ 0 * 2 ^ 0
zero_grid s e = ap (λ (x : ℕ). x * 2 ^ 149 / down e) (zero-mul (up e)) ∙ ap (λ (x : ℕ). x / down e) (zero-mul (2 ^ 149)) ∙ zero-div (down e)

-- the same with a zero, whose digits are 0
Digits : Float → Type 0
Digits z = (m : ℕ) × (f : ℕ) × (m < 16777216) × (grid z ≡ m * 2 ^ f)

digits : (z : Float) → T (fits binary32 z) → T (finite z) → T (le plus_zero z) → Digits z
unfolding Digits
digits nan F p h = absurd p
digits (inf s) F p h = absurd p
digits (fin s zero e) F p h = (0, 0, omega arith, zero_grid s e)
digits (fin true (suc m) e) F p h = absurd (zero_over_negative false (pos 0) m e h)
digits (fin false (suc m) e) F p h = digits_of (fin false (suc m) e) F (lt→ltb 0 (suc m) (zero-lt-suc m))

shape_of : (x : Float) → T (fits binary32 x) → T (positive x) → (m : ℕ) × (e : ℕ) × Shape x m e
shape_of x F p =
    let b = to_bits binary32 x in
    let r = pattern_range x F p in
    let is : of_bits binary32 b ≡ x = of_bits-to_bits binary32 x F in
    elim (either b 8388608) [
      | inl l ↦ (b * 2 ^ (count_leading_zeros 32 b - 8), 32 - count_leading_zeros 32 b, subst (λ (y : Float). Shape y (b * 2 ^ (count_leading_zeros 32 b - 8)) (32 - count_leading_zeros 32 b)) is (small_shape b (count_leading_zeros 32 b) r.0 l (moved b r.0 l)))
      | inr l ↦ (b % 8388608 + 8388608, b / 8388608 + 23, subst (λ (y : Float). Shape y (b % 8388608 + 8388608) (b / 8388608 + 23)) is (normal_shape b l r.1))
    ]

two : (e : ℕ) → e % 2 < 2
two e = omega arith

-- x as m * 2 ^ (e - 173), and q, the digits of its root
record Rooted (x : Float) : Type 0 where
  m : ℕ
  e : ℕ
  q : ℕ
  shape : Shape x m e
  low : 70368744177664 ≤ m * 2 ^ (23 + e % 2)
  near : Nearest (m * 2 ^ (23 + e % 2)) q

rooted : (x : Float) → T (fits binary32 x) → T (positive x) → Rooted x
rooted x F p =
    let s = shape_of x F p in
    let m = s.0 in
    let e = s.1 in
    let h = s.2 in
    let range = in_range m (e % 2) h.low h.high (two e) in
    let same = doubled m (e % 2) (two e) in
    let low : 70368744177664 ≤ m * 2 ^ (23 + e % 2) = le_trans range.0 (le_of_eq same) in
    let o = nearest_of (m * 2 ^ (23 + e % 2)) low (le_trans (le_of_eq (sym same)) range.1) in
    record { m = m; e = e; q = o.0; shape = h; low = low; near = o.1 }

module _ (x : Float) (o : Rooted x) where
  root_is : root_of x ≡ odd 24 false o.q (o.e / 2 + 51) 149
  root_is = shape_root x o.m o.e o.q o.shape o.near

  root_value : HasValue (root_of x) false (o.q * 2 ^ (o.e / 2 + 51)) (2 ^ 149)
  root_value = subst (λ (y : Float). HasValue y false (o.q * 2 ^ (o.e / 2 + 51)) (2 ^ 149)) (sym root_is) (odd_sign 24 false o.q (o.e / 2 + 51) 149)

  root_above : T (positive (root_of x))
  root_above = positive_of_value (root_of x) (o.q * 2 ^ (o.e / 2 + 51)) (2 ^ 149) root_value (mul-pos (lt_of_lt_of_le (zero-lt-suc 8388607) o.near.low) (pow_pos (o.e / 2 + 51)))

  -- its 24 digits and its size are those of an f32
  root_representable : T (fits binary32 (root_of x))
  root_representable =
      let q = o.q in
      let d = o.e / 2 + 51 in
      let high = o.near.high in
      subst (λ (y : Float). T (fits binary32 y)) (sym root_is)
      (odd-fits binary32 24 false q d high (le_of_lt high) (lt_of_lt_of_le (shl_lt 24 d high) (pow_mono (reach o.e o.shape.small))))
    where
      reach : (e : ℕ) → e < 278 → 24 + (e / 2 + 51) ≤ 277
      reach e h = omega arith

  none_nearer : (z : Float) → T (fits binary32 z) → T (finite z) → T (le plus_zero z) → Nearer x (root_of x) z
  unfolding Digits
  none_nearer z G r v =
      let q = o.q in
      let n = o.m * 2 ^ (23 + o.e % 2) in
      let d = o.e / 2 + 51 in
      let g : grid (root_of x) ≡ q * 2 ^ d = grid_is (root_of x) (q * 2 ^ d) root_value in
      let ww : fine x ≡ n * 4 ^ d = fine_is x o.shape.a o.shape.value ∙ o.shape.same ∙ scaled o.m o.e in
      let k = digits z G r v in
      let t = k.0 in
      let f = k.1 in
      record {
        from_below = subst (λ (a : ℕ). a < grid (root_of x) → (a + grid (root_of x)) * (a + grid (root_of x)) < 4 * fine x) (sym k.3)
            (subst (λ (b : ℕ). t * 2 ^ f < b → (t * 2 ^ f + b) * (t * 2 ^ f + b) < 4 * fine x) (sym g)
            (subst (λ (v : ℕ). t * 2 ^ f < q * 2 ^ d → (t * 2 ^ f + q * 2 ^ d) * (t * 2 ^ f + q * 2 ^ d) < 4 * v) (sym ww) (smaller n q d t f o.near o.low k.2)));
        from_above = subst (λ (a : ℕ). grid (root_of x) < a → 4 * fine x < (a + grid (root_of x)) * (a + grid (root_of x))) (sym k.3)
            (subst (λ (b : ℕ). b < t * 2 ^ f → 4 * fine x < (t * 2 ^ f + b) * (t * 2 ^ f + b)) (sym g)
            (subst (λ (v : ℕ). q * 2 ^ d < t * 2 ^ f → 4 * v < (t * 2 ^ f + q * 2 ^ d) * (t * 2 ^ f + q * 2 ^ d)) (sym ww) (larger n q d t f o.near o.low k.2)));
      }

pub root_nearest : NoneNearer
root_nearest x F p = let o = rooted x F p in (root_representable x o, root_above x o, none_nearer x o)
