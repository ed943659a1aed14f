-- `root_of` of a positive value, by the whole numbers that the code computes with. Assumes nothing.
use mathlib.Core.Path.{◌≡◌, refl, sym, ap, ◌∙◌, subst}
use Prim.Native.Nat.{ℕ, zero, suc, ◌+◌, ◌-◌, ◌*◌, ◌/◌, ◌%◌, ◌^◌, ◌≤◌, ◌<◌}
use native.Mathlib.Nat.{le_of_eq, le_of_lt, le_trans, lt_irrefl, lt_of_lt_of_le, lt_of_not-le, le_antisymm, zero-mul, mul-one, mul_assoc, mul_right_comm, mul-pos, mul-le-mul_right, mul-div_cancel, mod-eq_of_lt, pow-suc}
use native.Mathlib.Omega.{arith}
use mathlib.Core.Bool.{true, false, true≢false}
use lib.IntN.{ℤ}
use lib.Dec.{lit≤}
use lib.Count.{count_leading_zeros, leading_top}
use lib.Pow.{pow-add, pow_pos, pow_mono, shl_lt}
use lib.Ieee.{Float, nan, inf, fin, binary32, up, down, size, odd, of_bits}
use lib.Ieee.Digits.{size-lt, size-le}
use lib.Ieee.Fits.{down_pos}
use lib.Ieee.Exact.{HasValue, odd_sign}
use Rattle.square_root.specs.Root.{nearest_root, root_of}
use Rattle.square_root.specs.Steps.{Nearest, Pattern}
use Rattle.square_root.proofs.Count.{nearest_is}
use Rattle.square_root.proofs.Patterns.{normal_is, subnormal_is}

-- the root of w * 2 ^ -298, in words of w
unfoldable pub of_whole : ℕ → Float
of_whole w = odd 24 false (nearest_root w ((size w - 47) / 2)) ((size w - 47) / 2) 149

pub root_pos : (m : ℕ) (e : ℤ) → root_of (fin false (suc m) e) ≡ of_whole (suc m * up e * 2 ^ 298 / down e)
unfolding root_of of_whole
root_pos m e = refl

-- x is a of the smallest values
pub root_value : (x : Float) (a : ℕ) → 0 < a → HasValue x false a (2 ^ 149) → root_of x ≡ of_whole (a * 2 ^ 149)
root_value nan a h v = absurd v
root_value (inf s) a h v = absurd v
root_value (fin true m e) a h v = absurd (true≢false v.0)
root_value (fin false zero e) a h v = absurd (lt_irrefl 0 (subst (λ (x : ℕ). 0 < x) (sym v.1 ∙ ap (λ (x : ℕ). x * 2 ^ 149) (zero-mul (up e)) ∙ zero-mul (2 ^ 149)) (mul-pos h (down_pos e))))
root_value (fin false (suc m) e) a h v =
    root_pos m e
    ∙ ap of_whole
    (ap (λ (x : ℕ). x / down e)
    (ap (λ (x : ℕ). suc m * up e * x) (pow-add 2 149 149)
    ∙ sym (mul_assoc (suc m * up e) (2 ^ 149) (2 ^ 149))
    ∙ ap (λ (x : ℕ). x * 2 ^ 149) v.1
    ∙ mul_right_comm a (down e) (2 ^ 149))
    ∙ mul-div_cancel (a * 2 ^ 149) (down_pos e))

-- ---- how many digits
pub size_is : (w z : ℕ) → 2 ^ z ≤ w → w < 2 ^ suc z → size w ≡ suc z
size_is w z l u = le_antisymm (size-le w (suc z) u) (lt_of_not-le (λ (h : size w ≤ z). lt_irrefl w (lt_of_lt_of_le (size-lt w) (le_trans (pow_mono h) l))))

pub four_pow : (k : ℕ) → 4 ^ k ≡ 2 ^ (k + k)
four_pow zero = refl
four_pow (suc k) = pow-suc 4 k ∙ ap (λ (x : ℕ). x * 4) (four_pow k) ∙ sym (pow-add 2 (k + k) 2) ∙ ap (λ (x : ℕ). 2 ^ x) (more k)
  where
    more : (k : ℕ) → k + k + 2 ≡ suc k + suc k
    more k = omega arith

-- the exponents of a value's square root
half_of : (e : ℕ) → (suc (148 + e) - 47) / 2 ≡ e / 2 + 51
half_of e = omega arith

parts : (e : ℕ) → 23 + e % 2 + (e / 2 + 51 + (e / 2 + 51)) ≡ 125 + e
parts e = omega arith

pub scaled : (m e : ℕ) → m * 2 ^ (125 + e) ≡ m * 2 ^ (23 + e % 2) * 4 ^ (e / 2 + 51)
scaled m e =
    ap (λ (x : ℕ). m * 2 ^ x) (sym (parts e))
    ∙ ap (λ (x : ℕ). m * x) (pow-add 2 (23 + e % 2) (e / 2 + 51 + (e / 2 + 51)) ∙ ap (λ (x : ℕ). 2 ^ (23 + e % 2) * x) (sym (four_pow (e / 2 + 51))))
    ∙ sym (mul_assoc m (2 ^ (23 + e % 2)) (4 ^ (e / 2 + 51)))

wide : (m e : ℕ) → 8388608 ≤ m → m < 16777216 → size (m * 2 ^ (125 + e)) ≡ suc (148 + e)
wide m e l u = size_is (m * 2 ^ (125 + e)) (148 + e)
    (le_trans (le_of_eq (ap (λ (x : ℕ). 2 ^ x) (regroup 23 125 e) ∙ pow-add 2 23 (125 + e))) (mul-le-mul_right (2 ^ (125 + e)) l))
    (subst (λ (x : ℕ). m * 2 ^ (125 + e) < 2 ^ x) (sym (up_one e)) (shl_lt 24 (125 + e) u))
  where
    regroup : (a b c : ℕ) → a + b + c ≡ a + (b + c)
    regroup a b c = omega arith

    up_one : (e : ℕ) → suc (148 + e) ≡ 24 + (125 + e)
    up_one e = omega arith

pub of_whole_at : (w q d : ℕ) → (size w - 47) / 2 ≡ d → nearest_root w d ≡ q → of_whole w ≡ odd 24 false q d 149
unfolding of_whole
of_whole_at w q d p r = ap (λ (x : ℕ). odd 24 false (nearest_root w x) x 149) p ∙ ap (λ (x : ℕ). odd 24 false x d 149) r

-- the root of a number of 24 digits, times a power of two
pub whole_root : (m e q : ℕ) → 8388608 ≤ m → m < 16777216 → Nearest (m * 2 ^ (23 + e % 2)) q → of_whole (m * 2 ^ (125 + e)) ≡ odd 24 false q (e / 2 + 51) 149
whole_root m e q l u near = of_whole_at (m * 2 ^ (125 + e)) q (e / 2 + 51)
    (ap (λ (x : ℕ). (x - 47) / 2) (wide m e l u) ∙ half_of e)
    (ap (λ (x : ℕ). nearest_root x (e / 2 + 51)) (scaled m e)
    ∙ nearest_is (m * 2 ^ (23 + e % 2)) q (e / 2 + 51) near.above near.below (le_of_lt near.high))

-- the pattern that the code makes of q
pattern_lt : (e q r : ℕ) → e < 278 → 8388608 ≤ q → q < 16777216 → r ≡ (e / 2 + 51) * 8388608 + q → (8388608 ≤ r) × (r < 2139095040)
pattern_lt e q r h l u is = omega arith

pattern_digits : (e q r : ℕ) → 8388608 ≤ q → q < 16777216 → r ≡ (e / 2 + 51) * 8388608 + q → 8388608 + r % 8388608 ≡ q
pattern_digits e q r l u is = omega arith

pattern_field : (e q r : ℕ) → 8388608 ≤ q → q < 16777216 → r ≡ (e / 2 + 51) * 8388608 + q → r / 8388608 - 1 ≡ e / 2 + 51
pattern_field e q r l u is = omega arith

-- x is m * 2 ^ (e - 173), with an m of 24 digits: a of the smallest values
pub record Shape (x : Float) (m e : ℕ) : Type 0 where
  pub a : ℕ
  pub above : 0 < a
  pub value : HasValue x false a (2 ^ 149)
  pub same : a * 2 ^ 149 ≡ m * 2 ^ (125 + e)
  pub low : 8388608 ≤ m
  pub high : m < 16777216
  pub small : e < 278

pub shape_root : (x : Float) (m e q : ℕ) → Shape x m e → Nearest (m * 2 ^ (23 + e % 2)) q → root_of x ≡ odd 24 false q (e / 2 + 51) 149
shape_root x m e q h near = root_value x h.a h.above h.value ∙ ap of_whole h.same ∙ whole_root m e q h.low h.high near

-- what `pattern` ensures, as what `normal` and `subnormal` do
of_pattern : (x : Float) (m e r : ℕ) → Shape x m e → Pattern m e r → (of_bits binary32 r ≡ root_of x) × (r < 2139095040)
of_pattern x m e r h p =
    let n = p.near in
    let b = pattern_lt e p.q r h.small n.low n.high p.is in (
      normal_is r b.0 b.1
          ∙ ap (λ (t : ℕ). odd 24 false t (r / 8388608 - 1) 149) (pattern_digits e p.q r n.low n.high p.is)
          ∙ ap (λ (t : ℕ). odd 24 false p.q t 149) (pattern_field e p.q r n.low n.high p.is)
          ∙ sym (shape_root x m e p.q h n),
      b.1,
    )

-- ---- what the code computes of a pattern
pub doubled : (m p : ℕ) → p < 2 → m * 8388608 * (p + 1) ≡ m * 2 ^ (23 + p)
doubled m zero h = omega arith
doubled m (suc zero) h = omega arith
doubled m (suc (suc p)) h = absurd (too_many p h)
  where
    too_many : (p : ℕ) → suc (suc p) < 2 → ⊥
    too_many p h = omega arith

pub in_range : (m p : ℕ) → 8388608 ≤ m → m < 16777216 → p < 2 → (70368744177664 ≤ m * 8388608 * (p + 1)) × (m * 8388608 * (p + 1) ≤ 281474959933440)
in_range m zero l u h = omega arith
in_range m (suc zero) l u h = omega arith
in_range m (suc (suc p)) l u h = absurd (too_many p h)
  where
    too_many : (p : ℕ) → suc (suc p) < 2 → ⊥
    too_many p h = omega arith

pub normal_shape : (b : ℕ) → 8388608 ≤ b → b < 2139095040 → Shape (of_bits binary32 b) (b % 8388608 + 8388608) (b / 8388608 + 23)
normal_shape b l u =
    let t = 8388608 + b % 8388608 in
    let k = b / 8388608 - 1 in
    record {
      a = t * 2 ^ k;
      above = mul-pos (omega arith) (pow_pos k);
      value = subst (λ (x : Float). HasValue x false (t * 2 ^ k) (2 ^ 149)) (sym (normal_is b l u)) (odd_sign 24 false t k 149);
      same = mul_assoc t (2 ^ k) (2 ^ 149)
          ∙ ap (λ (x : ℕ). t * x) (sym (pow-add 2 k 149) ∙ ap (λ (x : ℕ). 2 ^ x) (exponent b l))
          ∙ ap (λ (x : ℕ). x * 2 ^ (125 + (b / 8388608 + 23))) (digits b);
      low = omega arith;
      high = omega arith;
      small = omega arith;
    }
  where
    exponent : (b : ℕ) → 8388608 ≤ b → b / 8388608 - 1 + 149 ≡ 125 + (b / 8388608 + 23)
    exponent b l = omega arith

    digits : (b : ℕ) → 8388608 + b % 8388608 ≡ b % 8388608 + 8388608
    digits b = omega arith

pub normal_root : (b r : ℕ) → 8388608 ≤ b → b < 2139095040 → Pattern (b % 8388608 + 8388608) (b / 8388608 + 23) r
    → (of_bits binary32 r ≡ root_of (of_bits binary32 b)) × (r < 2139095040)
normal_root b r l u p = of_pattern (of_bits binary32 b) (b % 8388608 + 8388608) (b / 8388608 + 23) r (normal_shape b l u) p

-- a number of fewer than 24 digits, moved up by as many as it lacks
pub record Moved (b z : ℕ) : Type 0 where
  pub least : 9 ≤ z
  pub most : z ≤ 31
  pub whole : (b * 2 ^ (z - 8)) % 2 ^ 32 ≡ b * 2 ^ (z - 8)
  pub low : 8388608 ≤ b * 2 ^ (z - 8)
  pub high : b * 2 ^ (z - 8) < 16777216

moved_at : (b z j : ℕ) → z + suc j ≡ 32 → 2 ^ j ≤ b → b < 2 ^ suc j → j < 23 → Moved b z
moved_at b z j e l u s =
    let up : z - 8 ≡ 23 - j = omega arith in
    let high : b * 2 ^ (z - 8) < 16777216 =
    subst (λ (x : ℕ). b * 2 ^ x < 16777216) (sym up) (subst (λ (x : ℕ). b * 2 ^ (23 - j) < 2 ^ x) (suc_sum j s) (shl_lt (suc j) (23 - j) u)) in
    record {
      least = omega arith;
      most = omega arith;
      whole = mod-eq_of_lt (lt_of_lt_of_le high (lit≤ tt));
      low = subst (λ (x : ℕ). 8388608 ≤ b * 2 ^ x) (sym up) (le_trans (le_of_eq (ap (λ (x : ℕ). 2 ^ x) (sym (sum j s)) ∙ pow-add 2 j (23 - j))) (mul-le-mul_right (2 ^ (23 - j)) l));
      high = high;
    }
  where
    sum : (j : ℕ) → j < 23 → j + (23 - j) ≡ 23
    sum j s = omega arith

    suc_sum : (j : ℕ) → j < 23 → suc j + (23 - j) ≡ 24
    suc_sum j s = omega arith

pub moved : (b : ℕ) → 0 < b → b < 8388608 → Moved b (count_leading_zeros 32 b)
moved b p h =
    let t = leading_top 32 b p (lt_of_lt_of_le h (lit≤ tt)) in
    moved_at b (count_leading_zeros 32 b) t.0 t.1 t.2 t.3 (lt_of_not-le (λ (g : 23 ≤ t.0). lt_irrefl b (lt_of_lt_of_le h (le_trans (pow_mono g) t.2))))

pub small_shape : (b z : ℕ) → 0 < b → b < 8388608 → Moved b z → Shape (of_bits binary32 b) (b * 2 ^ (z - 8)) (32 - z)
small_shape b z p u moved = record {
  a = b * 2 ^ 0;
  above = mul-pos p (pow_pos 0);
  value = subst (λ (x : Float). HasValue x false (b * 2 ^ 0) (2 ^ 149)) (sym (subnormal_is b u)) (odd_sign 24 false b 0 149);
  same = ap (λ (x : ℕ). x * 2 ^ 149) (mul-one b)
      ∙ ap (λ (x : ℕ). b * 2 ^ x) (sym (exponent z moved.least moved.most))
      ∙ ap (λ (x : ℕ). b * x) (pow-add 2 (z - 8) (125 + (32 - z)))
      ∙ sym (mul_assoc b (2 ^ (z - 8)) (2 ^ (125 + (32 - z))));
  low = moved.low;
  high = moved.high;
  small = omega arith;
}
  where
    exponent : (z : ℕ) → 9 ≤ z → z ≤ 31 → z - 8 + (125 + (32 - z)) ≡ 149
    exponent z l u = omega arith

pub small_root : (b z r : ℕ) → 0 < b → b < 8388608 → Moved b z → Pattern (b * 2 ^ (z - 8)) (32 - z) r
    → (of_bits binary32 r ≡ root_of (of_bits binary32 b)) × (r < 2139095040)
small_root b z r p u moved at = of_pattern (of_bits binary32 b) (b * 2 ^ (z - 8)) (32 - z) r (small_shape b z p u moved) at
