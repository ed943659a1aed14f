-- A part of the range of keys has at most 4 values: with e * bins ≤ 1.25 as an f32 product, the cut ends lie at most 3 apart. There are four roundings
-- between e and the two ends. None is bounded by an error term: a rounding moves no value past a dyadic fraction that the format holds, and the
-- fractions j / 2 ^ 20 lie close enough. Suppose the ends are K and K + 4 or more. Then (r + e) * bins > K + 4 - 1 / 8 - 1 / 256 and
-- (r - e) * bins < K + 1 + 1 / 256, so 2 * e * bins > 2.86, but e * bins < 11 / 8. Assumes nothing.
use Rattle.std.proofs.Common.{◌≡◌, ℕ, ◌+◌, ◌-◌, ◌*◌, ◌/◌, ◌^◌, ◌<◌, ◌≤◌, min, true, false, T, pos, negsuc, sym, refl, ap, subst, inl, inr, zero-le, le_trans, le_of_eq, mul-le-mul_right, mod-lt, mul-lt-mul_of_pos_right, div-add-mod', div-mul-le_self, le_of_mul-le-mul_right, arith, lit≤}
use lib.Ieee.{Float, fin, binary32, add, sub, mul, le, fits, to_unsigned}
use lib.Ieee.Scale.{finite}
use lib.Ieee.Positive.{den, den_pos, positive-finite}
use Rattle.numeric.specs.Value.{zero32}
use Rattle.numeric.proofs.Fraction.{over, under, at}
use Rattle.numeric.proofs.Order.{finite_number, le→below, le_through, lt_or_le}
use Rattle.numeric.proofs.Rounding.{Rounds}
use Rattle.numeric.proofs.Operations.{nonneg_under, dens}
use Rattle.numeric.proofs.Representable.{Representable, representable_fits, representable_dyadic, representable_whole, rounds_le, rounds_ge}
use Rattle.numeric.specs.Value.{one32}
use Rattle.numeric.proofs.Bounds.{finite_between, add_up, sub_up, mul_whole, mul_number}
use Rattle.numeric.specs.MinMax.{larger, smaller}
use Rattle.numeric.proofs.TruncationOrder.{truncation_mono, cut_least, cut_larger, smaller_left, smaller_right}
use Rattle.numeric.specs.KeyPart.{bins32, five_quarters}
use Rattle.numeric.specs.Claims.{AtMostFourValues}
use Rattle.numeric.proofs.KeyParts.{bins_value, bins_positive, bins_cut}

abbrev eleven_eighths : Float
eleven_eighths = fin false 11 (negsuc 2)

abbrev four : Float
four = fin false 1 (pos 2)

abbrev minus_four : Float
minus_four = fin true 1 (pos 2)

eleven_representable : Representable binary32 eleven_eighths
unfolding fits
eleven_representable = representable_fits binary32 eleven_eighths tt tt

four_representable : Representable binary32 four
unfolding fits
four_representable = representable_fits binary32 four tt tt

minus_four_representable : Representable binary32 minus_four
unfolding fits
minus_four_representable = representable_fits binary32 minus_four tt tt

apart : T (le eleven_eighths five_quarters) → ⊥
unfolding le
apart h = h

-- ---- natural numbers
-- The whole part q of a / B.
quotient_hi : (a B : ℕ) → 0 < B → a < (a / B + 1) * B
quotient_hi a B h = let m = mod-lt a h in let e = div-add-mod' a B in omega arith

-- The final contradiction. R / D is r, E / D is e, and j and q are the numerators of the two fractions over 2 ^ 20.
final : (R E D B K j q : ℕ) → 0 < D → B ≤ 4096
    → E * B * 8 < 11 * D
    → j * D < (R + E) * 1048576
    → R * 1048576 < E * 1048576 + (q + 1) * D
    → (8 * K + 31) * 131072 < (j + 1) * B
    → q * B ≤ (K + 1) * 1048576
    → 0 < B → ⊥
final R E D B K j q d b h1 h2 h3 h4 h5 p =
    let a2 = mul-lt-mul_of_pos_right h2 p in
    let a3 = mul-lt-mul_of_pos_right h3 p in
    let a4 = mul-lt-mul_of_pos_right h4 d in
    let a5 = mul-le-mul_right D h5 in
    let a6 = mul-le-mul_right D b in
    omega arith

-- ---- pieces over numbers alone
from_one : (o B d : ℕ) → 0 < B → o * B * 8 < 11 * d → o * 8 ≤ 11 * d
from_one o B d p h = le_trans (up o B p) (lower (o * B * 8) (11 * d) h)
  where
    up : (o B : ℕ) → 0 < B → o * 8 ≤ o * B * 8
    up o B p = let a = mul-le-mul_right (o * 8) p in omega arith

    lower : (a b : ℕ) → a < b → a ≤ b
    lower a b k = omega arith

eighths : (K : ℕ) → (8 * K + 31) * 1 / 8 ≤ K + 3
eighths K = omega arith

capped : (a t c : ℕ) → a ≤ c → min a t ≤ c
capped a t c h = omega arith

cut_eighths : (K : ℕ) → to_unsigned 32 (fin false (8 * K + 31) (negsuc 2)) ≤ K + 3
unfolding to_unsigned
cut_eighths K = capped ((8 * K + 31) * 1 / 8) (2 ^ 32 - 1) (K + 3) (eighths K)

module _ (r e : Float) (B : ℕ) (R : T (finite r)) (E : T (finite e)) (r0 : T (le zero32 r)) (r1 : T (le r one32)) (e0 : T (le zero32 e)) (B0 : 0 < B) (B1 : B ≤ 4096)
    (h : T (le (mul binary32 e (bins32 B)) five_quarters)) where
  bins_finite : T (finite (bins32 B))
  bins_finite = positive-finite (bins32 B) (bins_positive B B0 B1)

  times : (x : Float) → T (finite x) → Rounds binary32 (over x * B) (under x * B) (den x) (mul binary32 x (bins32 B))
  times x X = mul_whole binary32 x (bins32 B) B X bins_finite (bins_value B B1)

  -- The bound e * bins < 11 / 8.
  e_small : over e * B * 8 < 11 * den e
  e_small =
      elim (lt_or_le (over e * B * 8) (11 * den e)) [
        | inl a ↦ a
        | inr a ↦ absurd (apart (le_through eleven_eighths (mul binary32 e (bins32 B)) five_quarters
            (rounds_ge binary32 (over e * B) (under e * B) (den e) (mul binary32 e (bins32 B)) eleven_eighths (den_pos e) (times e E) tt eleven_representable
            (let z = ap (λ (u : ℕ). u * B * 8) (nonneg_under e E e0) in omega arith)) h))
      ]

  sum : Float
  sum = add binary32 r e

  diff : Float
  diff = sub binary32 r e

  sum_rounds : Rounds binary32 (over r * den e + over e * den r) 0 (den r * den e) sum
  unfolding sum
  sum_rounds = add_up binary32 r e R E r0 e0

  diff_rounds : Rounds binary32 (over r * den e) (over e * den r) (den r * den e) diff
  unfolding diff
  diff_rounds = sub_up binary32 r e R E r0 e0

  -- The bounds r ≤ 1 and e ≤ 11 / 8, over the common denominator.
  r_part : over r * den e ≤ den r * den e
  r_part = let b = le→below r one32 R tt r1 in let z = nonneg_under r R r0 in let k : over r ≤ den r = omega arith in mul-le-mul_right (den e) k

  e_part : over e * den r * 8 ≤ 11 * (den r * den e)
  e_part = let a = mul-le-mul_right (den r) (from_one (over e) B (den e) B0 e_small) in omega arith

  sum_finite : T (finite sum)
  sum_finite =
      finite_between zero32 sum four tt tt
      (rounds_ge binary32 (over r * den e + over e * den r) 0 (den r * den e) sum zero32 (dens r e) sum_rounds tt (representable_whole binary32 0 zero-le) (omega arith))
      (rounds_le binary32 (over r * den e + over e * den r) 0 (den r * den e) sum four (dens r e) sum_rounds tt four_representable
      (let a = r_part in let b = e_part in omega arith))

  diff_finite : T (finite diff)
  diff_finite =
      finite_between minus_four diff four tt tt
      (rounds_ge binary32 (over r * den e) (over e * den r) (den r * den e) diff minus_four (dens r e) diff_rounds tt minus_four_representable (let b = e_part in omega arith))
      (rounds_le binary32 (over r * den e) (over e * den r) (den r * den e) diff four (dens r e) diff_rounds tt four_representable (let a = r_part in omega arith))

  -- If the upper end reaches K + 4, then (r + e) is above j / 2 ^ 20, for the j with j / 2 ^ 20 just below (K + 4 - 1 / 8) / bins.
  sum_high : (K : ℕ) → K + 4 ≤ to_unsigned 32 (mul binary32 sum (bins32 B)) → K + 4 ≤ B → (8 * K + 31) * den sum < over sum * B * 8
  sum_high K k l =
      let x = fin false (8 * K + 31) (negsuc 2) in
      elim (lt_or_le ((8 * K + 31) * den sum) (over sum * B * 8)) [
        | inl a ↦ a
        | inr a ↦ absurd (past (to_unsigned 32 (mul binary32 sum (bins32 B))) (to_unsigned 32 x) K k
            (truncation_mono 32 (mul binary32 sum (bins32 B)) x
            (rounds_le binary32 (over sum * B) (under sum * B) (den sum) (mul binary32 sum (bins32 B)) x (den_pos sum) (times sum sum_finite) tt
            (representable_dyadic binary32 (8 * K + 31) 2 (in_range K l) (lit≤ tt)) (omega arith)))
            (cut_eighths K))
      ]
    where
      past : (a b K : ℕ) → K + 4 ≤ a → a ≤ b → b ≤ K + 3 → ⊥
      past a b K i j m = omega arith

      in_range : (K : ℕ) → K + 4 ≤ B → 8 * K + 31 < 16777216
      in_range K l = let b = B1 in omega arith

  sum_above : (K j : ℕ) → K + 4 ≤ to_unsigned 32 (mul binary32 sum (bins32 B)) → K + 4 ≤ B → j < 16777216 → j * B ≤ (8 * K + 31) * 131072
      → j * (den r * den e) < (over r * den e + over e * den r) * 1048576
  sum_above K j k l J t =
      let x = fin false j (negsuc 19) in
      elim (lt_or_le (j * (den r * den e)) ((over r * den e + over e * den r) * 1048576)) [
        | inl a ↦ a
        | inr a ↦ absurd (clash (over sum) (under sum) (den sum) j (8 * K + 31) t
            (le→below sum x sum_finite tt
            (rounds_le binary32 (over r * den e + over e * den r) 0 (den r * den e) sum x (dens r e) sum_rounds tt (representable_dyadic binary32 j 19 J (lit≤ tt)) (omega arith)))
            sum_zero (sum_high K k l))
      ]
    where
      sum_zero : under sum ≡ 0
      sum_zero = nonneg_under sum sum_finite
          (rounds_ge binary32 (over r * den e + over e * den r) 0 (den r * den e) sum zero32 (dens r e) sum_rounds tt (representable_whole binary32 0 zero-le) (omega arith))

      clash : (o u d j t : ℕ) → j * B ≤ t * 131072 → o * 1048576 + 0 * d ≤ j * 1 * d + u * 1048576 → u ≡ 0 → t * d < o * B * 8 → ⊥
      clash o u d j t a b z c =
          let a' = mul-le-mul_right d a in
          let b' = mul-le-mul_right B b in
          let z' = ap (λ (k : ℕ). k * 1048576 * B) z in
          omega arith

  -- If the lower end is K, then (r - e) is below (q + 1) / 2 ^ 20, which is just above (K + 1) / bins.
  diff_low : (K : ℕ) → to_unsigned 32 (mul binary32 diff (bins32 B)) ≡ K → K < 4096 → over diff * B < (K + 1) * den diff + under diff * B
  diff_low K k l =
      let lo = mul binary32 diff (bins32 B) in
      elim (lt_or_le (over diff * B) ((K + 1) * den diff + under diff * B)) [
        | inl a ↦ a
        | inr a ↦ absurd (past (to_unsigned 32 lo) K k
            (cut_least 32 (K + 1) lo (wide K l)
            (rounds_ge binary32 (over diff * B) (under diff * B) (den diff) lo (at (K + 1)) (den_pos diff) (times diff diff_finite) tt
            (representable_whole binary32 (K + 1) (fit K l)) (omega arith))))
      ]
    where
      past : (a K : ℕ) → a ≡ K → K + 1 ≤ a → ⊥
      past a K i j = omega arith

      wide : (K : ℕ) → K < 4096 → K + 1 < 4294967296
      wide K l = omega arith

      fit : (K : ℕ) → K < 4096 → K + 1 ≤ 16777216
      fit K l = omega arith

  diff_below : (K q : ℕ) → to_unsigned 32 (mul binary32 diff (bins32 B)) ≡ K → K < 4096 → q + 1 < 16777216 → (K + 1) * 1048576 < (q + 1) * B
      → over r * den e * 1048576 < over e * den r * 1048576 + (q + 1) * (den r * den e)
  diff_below K q k l Q t =
      let x = fin false (q + 1) (negsuc 19) in
      elim (lt_or_le (over r * den e * 1048576) (over e * den r * 1048576 + (q + 1) * (den r * den e))) [
        | inl a ↦ a
        | inr a ↦ absurd (clash (over diff) (under diff) (den diff) q K t
            (le→below x diff tt diff_finite
            (rounds_ge binary32 (over r * den e) (over e * den r) (den r * den e) diff x (dens r e) diff_rounds tt (representable_dyadic binary32 (q + 1) 19 Q (lit≤ tt)) (omega arith)))
            (diff_low K k l))
      ]
    where
      clash : (o u d q K : ℕ) → (K + 1) * 1048576 < (q + 1) * B → (q + 1) * 1 * d + u * 1048576 ≤ o * 1048576 + 0 * d → o * B < (K + 1) * d + u * B → ⊥
      clash o u d q K a b c =
          let a' = mul-le-mul_right d a in
          let b' = mul-le-mul_right B b in
          omega arith

  -- The lower end K and an upper end of K + 4 or more contradict each other.
  not_four : (K : ℕ) → to_unsigned 32 (mul binary32 diff (bins32 B)) ≡ K → K + 4 ≤ to_unsigned 32 (mul binary32 sum (bins32 B)) → K + 4 ≤ B → ⊥
  not_four K k i l =
      let j = (8 * K + 31) * 131072 / B in
      let q = (K + 1) * 1048576 / B in
      let j-lo : j * B ≤ (8 * K + 31) * 131072 = div-mul-le_self ((8 * K + 31) * 131072) B in
      let j-hi : (8 * K + 31) * 131072 < (j + 1) * B = quotient_hi ((8 * K + 31) * 131072) B B0 in
      let q-lo : q * B ≤ (K + 1) * 1048576 = div-mul-le_self ((K + 1) * 1048576) B in
      let q-hi : (K + 1) * 1048576 < (q + 1) * B = quotient_hi ((K + 1) * 1048576) B B0 in
      let J : j ≤ 1048576 = most j ((8 * K + 31) * 131072) j-lo (j_room K l) in
      let Q : q ≤ 1048576 = most q ((K + 1) * 1048576) q-lo (q_room K l) in
      final (over r * den e) (over e * den r) (den r * den e) B K j q (dens r e) B1 (e_scaled (over e) (den e) (den r) (den_pos r) e_small)
      (sum_above K j i l (room j J) j-lo) (diff_below K q k (KSmall K l) (room1 q Q) q-hi) j-hi q-lo B0
    where
      most : (j a : ℕ) → j * B ≤ a → a ≤ 1048576 * B → j ≤ 1048576
      most j a x y = le_of_mul-le-mul_right {k = B} (le_trans x y) B0

      j_room : (K : ℕ) → K + 4 ≤ B → (8 * K + 31) * 131072 ≤ 1048576 * B
      j_room K l = omega arith

      q_room : (K : ℕ) → K + 4 ≤ B → (K + 1) * 1048576 ≤ 1048576 * B
      q_room K l = omega arith

      room : (j : ℕ) → j ≤ 1048576 → j < 16777216
      room j x = omega arith

      room1 : (j : ℕ) → j ≤ 1048576 → j + 1 < 16777216
      room1 j x = omega arith

      KSmall : (K : ℕ) → K + 4 ≤ B → K < 4096
      KSmall K l = let b = B1 in omega arith

      e_scaled : (o d D : ℕ) → 0 < D → o * B * 8 < 11 * d → o * D * B * 8 < 11 * (D * d)
      e_scaled o d D p x = let a = mul-lt-mul_of_pos_right x p in omega arith

  part_width : to_unsigned 32 (smaller (mul binary32 (add binary32 r e) (bins32 B)) (bins32 B)) ≤ to_unsigned 32 (larger (mul binary32 (sub binary32 r e) (bins32 B)) zero32) + 3
  unfolding sum diff
  part_width =
      let hi = mul binary32 (add binary32 r e) (bins32 B) in
      let lo = mul binary32 (sub binary32 r e) (bins32 B) in
      let P = bins_positive B B0 B1 in
      let K = to_unsigned 32 lo in
      let top = smaller hi (bins32 B) in
      let N = mul_number binary32 (add binary32 r e) (bins32 B) (finite_number (add binary32 r e) sum_finite) P in
      subst (λ (z : ℕ). to_unsigned 32 top ≤ z + 3) (sym (cut_larger 32 lo))
      (elim (lt_or_le (K + 3) (to_unsigned 32 top)) [
        | inl a ↦ absurd (not_four K refl
            (le_trans (step K (to_unsigned 32 top) a) (truncation_mono 32 top hi (smaller_left hi (bins32 B) N)))
            (le_trans (step K (to_unsigned 32 top) a) (le_trans (truncation_mono 32 top (bins32 B) (smaller_right hi (bins32 B) N (finite_number (bins32 B) bins_finite))) (le_of_eq (bins_cut B B1)))))
        | inr a ↦ a
      ])
    where
      step : (K a : ℕ) → K + 3 < a → K + 4 ≤ a
      step K a x = omega arith

pub at_most_four_values : AtMostFourValues
at_most_four_values = part_width
