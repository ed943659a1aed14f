-- Rounding keeps the order of signed fractions. `Rounds f p n c z` says that z is (p - n) / c rounded to the format f; the sign of a zero is left open.
-- Each operation on finite values rounds such a fraction (proofs/Operations.antt), so this one law, `rounds_mono`, gives the order of every result.
-- Assumes nothing.
use Rattle.std.proofs.Common.{◌≡◌, ℕ, zero, suc, ◌+◌, ◌-◌, ◌*◌, ◌/◌, ◌%◌, ◌^◌, ◌<◌, ◌≤◌, Bool, true, false, cond, T, ltb, pos, sym, refl, ap, ◌∙◌, subst, inl, inr, le_trans, le_of_eq, lt_irrefl, eq-zero-or-pos, mul-pos, zero-mul, le_of_mul-le-mul_right, arith, pow_pos}
use Prim.Native.Nat.{compare}
use lib.Ieee.{Float, inf, fin, Format, binary32, binary64, prec, emax, low, size, nearest, odd, units, round, le, neg}
use lib.Ieee.Fits.{round_is}
use lib.Ieee.Order.{round_mono}
use lib.Ieee.Scale.{round_same}
use Rattle.numeric.specs.Value.{zero32}
use Rattle.numeric.proofs.Fraction.{number}
use Rattle.numeric.proofs.Order.{le_through, le_neg, le_left}

-- ---- a negative result is the positive one with the other sign
odd_neg : (d q k l : ℕ) → odd d true q k l ≡ neg (odd d false q k l)
unfolding odd neg
odd_neg d zero k l = refl
odd_neg d (suc q) k l = refl

units_neg : (f : Format) (q k : ℕ) → units f true q k ≡ neg (units f false q k)
unfolding units neg
units_neg f q k = go (ltb (q * 2 ^ k) (2 ^ (low f + suc (emax f))))
  where
    go : (b : Bool) → cond b (odd (suc (prec f)) true q k (low f)) (inf true) ≡ neg (cond b (odd (suc (prec f)) false q k (low f)) (inf false))
    go true = odd_neg (suc (prec f)) q k (low f)
    go false = refl

pub round_neg : (f : Format) (a c : ℕ) → round f true a c ≡ neg (round f false a c)
round_neg f a c =
    let n = a * 2 ^ low f in
    let k = size (n / c) - prec f in
    let u = c * 2 ^ k in
    round_is f true a c ∙ units_neg f (nearest (n / u) (compare (n % u * 2) u)) k ∙ ap neg (sym (round_is f false a c))

-- ---- zero
zero_at_one : (f : Format) → round f false 0 1 ≡ zero32
unfolding round
zero_at_one binary32 = refl
zero_at_one binary64 = refl

pub round_zero : (f : Format) (c : ℕ) → 0 < c → round f false 0 c ≡ zero32
round_zero f c C = round_same f false 0 c 0 1 C (pow_pos 0) (zero-mul 1 ∙ sym (zero-mul c)) ∙ zero_at_one f

pub round_zero_neg : (f : Format) (c : ℕ) → 0 < c → round f true 0 c ≡ fin true 0 (pos 0)
unfolding neg
round_zero_neg f c C = round_neg f 0 c ∙ ap neg (round_zero f c C)

pub round_nonneg : (f : Format) (a c : ℕ) → 0 < c → T (le zero32 (round f false a c))
round_nonneg f a c C = subst (λ (z : Float). T (le z (round f false a c))) (zero_at_one f) (round_mono f 0 1 a c (pow_pos 0) C (omega arith))

neg_zero_le : T (le (neg zero32) zero32)
unfolding le neg
neg_zero_le = tt

zero_le_neg : T (le zero32 (fin true 0 (pos 0)))
unfolding le
zero_le_neg = tt

-- ---- rounding a signed fraction
pub data Rounds (f : Format) (p n c : ℕ) (z : Float) : Type 0 where
  plus : (a : ℕ) → a + n ≡ p → z ≡ round f false a c → Rounds f p n c z
  minus : (a : ℕ) → a + p ≡ n → z ≡ round f true a c → Rounds f p n c z

le_of : (x y x' y' : Float) → x ≡ x' → y ≡ y' → T (le x' y') → T (le x y)
le_of x y x' y' u v h = subst (λ (z : Float). T (le z y)) (sym u) (subst (λ (z : Float). T (le x' z)) (sym v) h)

pub no_product : (a b : ℕ) → 0 < b → a * b ≤ 0 → a ≡ 0
no_product a b B h = elim (eq-zero-or-pos a) [ inl z ↦ z | inr p ↦ absurd (lt_irrefl 0 (le_trans (mul-pos p B) h)) ]

pub rounds_mono : (f : Format) (p n c p' n' c' : ℕ) (z z' : Float) → 0 < c → 0 < c' → Rounds f p n c z → Rounds f p' n' c' z' → p * c' + n' * c ≤ p' * c + n * c' → T (le z z')
rounds_mono f p n c p' n' c' z z' C C' (plus a i u) (plus b j v) h =
    let x = ap (λ (k : ℕ). k * c') i in
    let y = ap (λ (k : ℕ). k * c) j in
    le_of z z' (round f false a c) (round f false b c') u v (round_mono f a c b c' C C' (omega arith))
rounds_mono f p n c p' n' c' z z' C C' (plus a i u) (minus b j v) h =
    let x = ap (λ (k : ℕ). k * c') i in
    let y = ap (λ (k : ℕ). k * c) j in
    let az : a ≡ 0 = no_product a c' C' (omega arith) in
    let bz : b ≡ 0 = no_product b c C (omega arith) in
    le_of z z' zero32 (fin true 0 (pos 0)) (u ∙ ap (λ (k : ℕ). round f false k c) az ∙ round_zero f c C) (v ∙ ap (λ (k : ℕ). round f true k c') bz ∙ round_zero_neg f c' C') zero_le_neg
rounds_mono f p n c p' n' c' z z' C C' (minus a i u) (plus b j v) h =
    le_of z z' (neg (round f false a c)) (round f false b c') (u ∙ round_neg f a c) v
    (le_through (neg (round f false a c)) (neg zero32) (round f false b c') (le_neg zero32 (round f false a c) (round_nonneg f a c C))
    (le_through (neg zero32) zero32 (round f false b c') neg_zero_le (round_nonneg f b c' C')))
rounds_mono f p n c p' n' c' z z' C C' (minus a i u) (minus b j v) h =
    let x = ap (λ (k : ℕ). k * c') i in
    let y = ap (λ (k : ℕ). k * c) j in
    le_of z z' (neg (round f false a c)) (neg (round f false b c')) (u ∙ round_neg f a c) (v ∙ round_neg f b c')
    (le_neg (round f false b c') (round f false a c) (round_mono f b c' a c C' C (omega arith)))

pub rounds_same : (f : Format) (p n c p' n' c' : ℕ) (z : Float) → p ≡ p' → n ≡ n' → c ≡ c' → Rounds f p n c z → Rounds f p' n' c' z
rounds_same f p n c p' n' c' z i j k r =
    subst (λ (x : ℕ). Rounds f x n' c' z) i (subst (λ (x : ℕ). Rounds f p x c' z) j (subst (λ (x : ℕ). Rounds f p n x z) k r))

-- A rounded value is a number.
pub rounds_number : (f : Format) (p n c : ℕ) (z : Float) → 0 < c → Rounds f p n c z → T (number z)
rounds_number f p n c z C r = le_left z z (rounds_mono f p n c p n c z z C C r r (le_of_eq refl))

-- The same fraction, written with another denominator.
scaled : (p n c p' n' c' a : ℕ) → 0 < c → p * c' ≡ p' * c → n * c' ≡ n' * c → a + n ≡ p → ((p' - n') + n' ≡ p') × (a * c' ≡ (p' - n') * c)
scaled p n c p' n' c' a C i j h =
    let x = ap (λ (k : ℕ). k * c') h in
    let le : n' ≤ p' = le_of_mul-le-mul_right {k = c} (omega arith) C in
    let back : (p' - n') + n' ≡ p' = put p' n' le in
    let y = ap (λ (k : ℕ). k * c) back in
    (back, omega arith)
  where
    put : (u v : ℕ) → v ≤ u → (u - v) + v ≡ u
    put u v l = omega arith

pub rounds_scale : (f : Format) (p n c p' n' c' : ℕ) (z : Float) → 0 < c → 0 < c' → p * c' ≡ p' * c → n * c' ≡ n' * c → Rounds f p n c z → Rounds f p' n' c' z
rounds_scale f p n c p' n' c' z C C' i j (plus a h u) = let s = scaled p n c p' n' c' a C i j h in plus (p' - n') s.0 (u ∙ round_same f false a c (p' - n') c' C C' s.1)
rounds_scale f p n c p' n' c' z C C' i j (minus a h u) = let s = scaled n p c n' p' c' a C j i h in minus (n' - p') s.0 (u ∙ round_same f true a c (n' - p') c' C C' s.1)
