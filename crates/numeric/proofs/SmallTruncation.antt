-- What `truncate_small` cites: x + 2^23 is rounded to a whole number, 2^23 + n, and n is the whole part of x or one more. Assumes nothing.
use Rattle.std.proofs.Common.{◌≡◌, ℕ, zero, suc, ◌+◌, ◌-◌, ◌*◌, ◌%◌, ◌^◌, ◌<◌, ◌≤◌, Bool, true, false, cond, ◌&&◌, T, eqb, ltb, leb, ℤ, pos, negsuc, sym, refl, ap, ◌∙◌, subst, inl, inr, true≢false, le_refl, mul-le-mul_right, eq-zero-or-pos, le_of_mul-le-mul_right, arith, le→leb, ltb→lt, pow_pos}
use native.Mathlib.Nat.{pow-succ'}
use lib.Ieee.{Float, nan, inf, fin, binary32, prec, emax, low, up, down, round, sum, add, sub, neg, le, lt, fits, of_int, in_float, to_unsigned, in_unsigned}
use lib.Ieee.Fits.{down_pos, and_l, and_r, add-fits}
use lib.Ieee.Scale.{finite, round_same}
use lib.Ieee.Exact.{HasValue}
use lib.Ieee.Back.{round_whole, unsigned_back}
use lib.Ieee.Positive.{den}
use Rattle.numeric.specs.Value.{zero32}
use Rattle.numeric.proofs.Fraction.{at, over, under}
use Rattle.numeric.proofs.Order.{finite_number, le→below, below→le, le_through, lt_or_le, lt_not_le, not_lt, holds}
use Rattle.numeric.proofs.Operations.{dens, nonneg_under}
use Rattle.numeric.proofs.Rounding.{Rounds}
use Rattle.numeric.proofs.Representable.{representable_whole, rounds_le, rounds_ge}
use Rattle.numeric.proofs.Bounds.{finite_between, add_up}
use Rattle.numeric.proofs.TruncationOrder.{truncation_mono, cut_reaches, cut_least}

-- The floats 2^23 and 4096.
abbrev big : Float
big = fin false 1 (pos 23)

abbrev pub top : Float
top = fin false 1 (pos 12)

-- ---- an f32 from 2^23 on is a whole number
small : (m : ℕ) (e : ℤ) → T (fits binary32 (fin false (suc m) e)) → suc m < 16777216
unfolding fits
small m e t =
    let a = eqb (suc m % 2) 1 in
    let b = ltb (suc m) (2 ^ prec binary32) in
    let c = leb (down e) (2 ^ low binary32) in
    let d = ltb (suc m * up e) (2 ^ suc (emax binary32) * down e) in
    ltb→lt (suc m) (2 ^ prec binary32) (and_r a b (and_l (a && b) c (and_l (a && b && c) d t)))

half : (m k : ℕ) → m < 16777216 → 8388608 * 2 ^ suc k ≤ m → ⊥
half m k h l = let p = pow_pos k in let e = pow-succ' 2 k in omega arith

whole_value : (s : Float) → T (fits binary32 s) → T (finite s) → T (le big s) → (n : ℕ) × HasValue s false n 1
whole_value nan g p h = absurd p
whole_value (inf t) g p h = absurd p
whole_value (fin true m e) g p h = absurd (let b = le→below big (fin true m e) tt tt h in let d = down_pos e in omega arith)
whole_value (fin false m (pos k)) g p h = (m * 2 ^ k, (refl, refl))
whole_value (fin false zero (negsuc k)) g p h = absurd (let b = le→below big (fin false zero (negsuc k)) tt tt h in half zero k (omega arith) (omega arith))
whole_value (fin false (suc m) (negsuc k)) g p h = absurd (let b = le→below big (fin false (suc m) (negsuc k)) tt tt h in half (suc m) k (small m (negsuc k) g) (omega arith))

-- ---- a whole value beside others
value_low : (s : Float) (n k : ℕ) → HasValue s false n 1 → T (le (at k) s) → k ≤ n
value_low nan n k v h = absurd v
value_low (inf t) n k v h = absurd v
value_low (fin true m e) n k v h = absurd (true≢false v.0)
value_low (fin false m e) n k v h = let b = le→below (at k) (fin false m e) tt tt h in let w = v.1 in le_of_mul-le-mul_right {k = down e} (omega arith) (down_pos e)

value_high : (s : Float) (n k : ℕ) → HasValue s false n 1 → T (le s (at k)) → n ≤ k
value_high nan n k v h = absurd v
value_high (inf t) n k v h = absurd v
value_high (fin true m e) n k v h = absurd (true≢false v.0)
value_high (fin false m e) n k v h = let b = le→below (fin false m e) (at k) tt tt h in let w = v.1 in le_of_mul-le-mul_right {k = down e} (omega arith) (down_pos e)

value_le : (z x : Float) (n : ℕ) → HasValue z false n 1 → T (finite x) → n * den x ≤ over x → under x ≡ 0 → T (le z x)
value_le nan x n v p h u = absurd v
value_le (inf t) x n v p h u = absurd v
value_le (fin true m e) x n v p h u = absurd (true≢false v.0)
value_le (fin false m e) x n v p h u =
    let a = mul-le-mul_right (down e) h in
    let w = ap (λ (q : ℕ). q * den x) v.1 in
    let y = ap (λ (q : ℕ). q * down e) u in
    below→le (fin false m e) x tt p (omega arith)

-- ---- 2^23 off again
off : (a b c n d : ℕ) → a ≡ (8388608 + n) * d → b ≡ 8388608 * d → c ≡ d → (a - b) * 1 ≡ n * c
off a b c n d i j k = let z : (8388608 + n) * d ≡ 8388608 * d + n * d = omega arith in let y = ap (λ (q : ℕ). n * q) k in omega arith

less : (a b n d : ℕ) → a ≡ (8388608 + n) * d → b ≡ 8388608 * d → a < b → ⊥
less a b n d i j h = omega arith

taken_off : (s : Float) (n : ℕ) → HasValue s false (8388608 + n) 1 → sub binary32 s big ≡ of_int binary32 (pos n)
unfolding sub add neg sum of_int
taken_off nan n v = absurd v
taken_off (inf t) n v = absurd v
taken_off (fin true m e) n v = absurd (true≢false v.0)
taken_off (fin false m e) n v = go (ltb (m * up e * 1) (1 * 8388608 * down e)) (ltb→lt (m * up e * 1) (1 * 8388608 * down e))
  where
    go : (t : Bool) → (T t → m * up e * 1 < 1 * 8388608 * down e)
        → cond t (round binary32 true (1 * 8388608 * down e - m * up e * 1) (down e * 1)) (round binary32 false (m * up e * 1 - 1 * 8388608 * down e) (down e * 1)) ≡ round binary32 false n 1
    go true h = absurd (less (m * up e * 1) (1 * 8388608 * down e) n (down e) v.1 (omega arith) (h tt))
    go false h =
        round_same binary32 false (m * up e * 1 - 1 * 8388608 * down e) (down e * 1) n 1 (let d = down_pos e in omega arith) (pow_pos 0)
        (off (m * up e * 1) (1 * 8388608 * down e) (down e * 1) n (down e) v.1 (omega arith) (omega arith))

-- ---- the two steps
module _ (x : Float) (lo : T (le zero32 x)) (hi : T (le x top)) where
  abbrev k : ℕ
  k = to_unsigned 32 x

  abbrev s : Float
  s = add binary32 x big

  x_finite : T (finite x)
  x_finite = finite_between zero32 x top tt tt lo hi

  plain : under x ≡ 0
  plain = nonneg_under x x_finite lo

  few : k ≤ 4096
  unfolding to_unsigned
  few = truncation_mono 32 x top hi

  reached : k * den x ≤ over x
  reached = elim (eq-zero-or-pos k) [
    | inl z ↦ subst (λ (j : ℕ). j * den x ≤ over x) (sym z) (omega arith)
    | inr p ↦ (let b = le→below (at k) x tt x_finite (cut_reaches 32 k x p (le_refl k)) in omega arith)
  ]

  missed : over x < (k + 1) * den x
  missed = elim (lt_or_le (over x) ((k + 1) * den x)) [
    | inl a ↦ a
    | inr a ↦ absurd (past k (cut_least 32 (k + 1) x (let f = few in omega arith) (below→le (at (k + 1)) x tt x_finite (let p = plain in omega arith))))
  ]
    where
      past : (j : ℕ) → j + 1 ≤ j → ⊥
      past j h = omega arith

  rounded : Rounds binary32 (over x * den big + over big * den x) 0 (den x * den big) s
  unfolding le
  rounded = add_up binary32 x big x_finite tt lo tt

  s_low : T (le (at (8388608 + k)) s)
  s_low = rounds_ge binary32 (over x * den big + over big * den x) 0 (den x * den big) s (at (8388608 + k)) (dens x big) rounded tt
      (representable_whole binary32 (8388608 + k) (let f = few in omega arith)) (let r = reached in omega arith)

  s_high : T (le s (at (8388608 + (k + 1))))
  s_high = rounds_le binary32 (over x * den big + over big * den x) 0 (den x * den big) s (at (8388608 + (k + 1))) (dens x big) rounded tt
      (representable_whole binary32 (8388608 + (k + 1)) (let f = few in omega arith)) (let r = missed in omega arith)

  s_finite : T (finite s)
  s_finite = finite_between (at (8388608 + k)) s (at (8388608 + (k + 1))) tt tt s_low s_high

  value : (n : ℕ) × HasValue s false n 1
  value = whole_value s (add-fits binary32 x big) s_finite (le_through big (at (8388608 + k)) s (below→le big (at (8388608 + k)) tt tt (omega arith)) s_low)

  pub record Near : Type 0 where
    pub n : ℕ
    pub at_least : k ≤ n
    pub at_most : n ≤ k + 1
    pub is : sub binary32 s big ≡ of_int binary32 (pos n)

  pub near : Near
  near =
      let l = value_low s value.0 (8388608 + k) value.1 s_low in
      let h = value_high s value.0 (8388608 + (k + 1)) value.1 s_high in
      let e : value.0 ≡ 8388608 + (value.0 - 8388608) = omega arith in
      record {
        n = value.0 - 8388608;
        at_least = omega arith;
        at_most = omega arith;
        is = taken_off s (value.0 - 8388608) (subst (λ (j : ℕ). HasValue s false j 1) e value.1);
      }

  back : T (in_unsigned binary32 32 (of_int binary32 (pos near.n))) × (to_unsigned 32 (of_int binary32 (pos near.n)) ≡ near.n)
  unfolding in_float
  back = let f = few in let m = near.at_most in unsigned_back binary32 32 near.n (le→leb near.n 16777216 (omega arith)) (omega arith)

  pub near_whole : T (in_unsigned binary32 32 (sub binary32 s big))
  near_whole = subst (λ (z : Float). T (in_unsigned binary32 32 z)) (sym near.is) back.0

  near_cut : to_unsigned 32 (sub binary32 s big) ≡ near.n
  near_cut = ap (to_unsigned 32) near.is ∙ back.1

  near_value : HasValue (of_int binary32 (pos near.n)) false near.n 1
  unfolding of_int
  near_value = let f = few in let m = near.at_most in round_whole binary32 false near.n (omega arith)

  -- Where x is below the difference, the difference is one more than the whole part.
  pub one_more : lt x (sub binary32 s big) ≡ true → to_unsigned 32 (sub binary32 s big) ≡ k + 1
  one_more h = near_cut ∙ by near.n k near.at_least near.at_most not_same
    where
      not_same : near.n ≡ k → ⊥
      not_same e =
          lt_not_le x (sub binary32 s big) (holds (lt x (sub binary32 s big)) h)
          (subst (λ (z : Float). T (le z x)) (sym near.is) (value_le (of_int binary32 (pos near.n)) x near.n near_value x_finite (subst (λ (j : ℕ). j * den x ≤ over x) (sym e) reached) plain))

      by : (n j : ℕ) → j ≤ n → n ≤ j + 1 → (n ≡ j → ⊥) → n ≡ j + 1
      by n j a b c = elim (lt_or_le j n) [ inl q ↦ omega arith | inr q ↦ absurd (c (omega arith)) ]

  -- Where x is not below the difference, the difference is the whole part.
  pub no_more : lt x (sub binary32 s big) ≡ false → to_unsigned 32 (sub binary32 s big) ≡ k
  no_more h =
      let z = subst (λ (y : Float). T (finite y)) (sym near.is) (whole_finite (of_int binary32 (pos near.n)) near.n near_value) in
      let m = truncation_mono 32 (sub binary32 s big) x (not_lt x (sub binary32 s big) (finite_number x x_finite) (finite_number (sub binary32 s big) z) h) in
      let a = near.at_least in
      let c = near_cut in
      omega arith
    where
      whole_finite : (y : Float) (n : ℕ) → HasValue y false n 1 → T (finite y)
      whole_finite nan n v = absurd v
      whole_finite (inf t) n v = absurd v
      whole_finite (fin t m e) n v = tt
