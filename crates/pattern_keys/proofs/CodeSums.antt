-- The hashes of the codes by doubling: for n = 1, 2, 4, 8 and 16, the codes from n to 2 n - 1 are those below n with one part more one above its
-- lower end. Assumes nothing.
use mathlib.Core.Path.{◌≡◌, sym, ◌∙◌, subst}
use mathlib.Core.Logic.{inl, inr}
use mathlib.Core.List.{List}
use Prim.Native.Nat.{ℕ, ◌+◌, ◌-◌, ◌*◌, ◌/◌, ◌%◌, ◌^◌, ◌≤◌, ◌<◌}
use native.Mathlib.Omega.{arith}
use native.Mathlib.Nat.{mul-le-mul, pow-zero, pow-suc}
use lib.ListN.{length, get_or, set, length-set}
use lib.Seq.{get_or-set_same}
use Rattle.numeric.proofs.Order.{lt_or_le}
use Rattle.pattern.specs.Key.{hash_of}
use Rattle.pattern_keys.specs.Codes.{key_of_code}
use Rattle.pattern_keys.specs.TwoValuesSteps.{Doubled, Room, Sums}

-- ---- the loop
pub record Half (before after : List ℕ) (n v i : ℕ) : Type 0 where
  pub same : (j : ℕ) → j < n → get_or after j 0 ≡ get_or before j 0
  pub more : (j : ℕ) → j < i → get_or after (n + j) 0 ≡ get_or before j 0 + v
  pub long : length after ≡ 32

-- ---- the hash of a code: that of the lower ends, and the weight of its bits
abbrev weight : ℕ → ℕ → ℕ
weight B x = x / 16 % 2 * B ^ 0 + x / 8 % 2 * B ^ 1 + x / 4 % 2 * B ^ 2 + x / 2 % 2 * B ^ 3 + x % 2 * B ^ 4

pub hash_weight : (lo : List ℕ) (B x : ℕ) → hash_of (key_of_code lo x) B ≡ hash_of lo B + weight B x
unfolding key_of_code hash_of
hash_weight lo B x = omega arith

next : (n v : ℕ) (a b lo : List ℕ) (B m : ℕ) → ((i : ℕ) → i < n → weight B (n + i) ≡ weight B i + v) → Sums a lo B n m → Doubled a b n v → Sums b lo B (n + n) (m + v)
next n v a b lo B m w s d =
    record {
      each = λ x h. elim (lt_or_le x n) [
        | inl p ↦ d.same x p ∙ s.each x p
        | inr p ↦
            let i = x - n in
            let e : n + i ≡ x = omega arith in
            let k : i < n = omega arith in
            subst (λ (y : ℕ). get_or b y 0 ≡ hash_of (key_of_code lo y) B) e
            (d.more i k ∙ omega (arith, s.each i k, w i k, hash_weight lo B i, hash_weight lo B (n + i)))
      ];
      below = λ x h. elim (lt_or_le x n) [
        | inl p ↦ omega (arith, d.same x p, s.below x p)
        | inr p ↦
            let i = x - n in
            let e : n + i ≡ x = omega arith in
            let k : i < n = omega arith in
            subst (λ (y : ℕ). get_or b y 0 < m + v) e (omega (arith, d.more i k, s.below i k))
      ];
      long = d.long;
    }

-- ---- the powers of bins
pub record Powers (B : ℕ) : Type 0 where
  pub none : B ^ 0 ≡ 1
  pub one : B ^ 1 ≡ B
  pub two : B ^ 2 ≡ B * B
  pub three : B ^ 3 ≡ B * B * B
  pub four : B ^ 4 ≡ B * B * (B * B)

pub powers : (B : ℕ) → Powers B
powers B =
    let p0 : B ^ 0 ≡ 1 = pow-zero B in
    let p1 : B ^ 1 ≡ B ^ 0 * B = pow-suc B 0 in
    let p2 : B ^ 2 ≡ B ^ 1 * B = pow-suc B 1 in
    let p3 : B ^ 3 ≡ B ^ 2 * B = pow-suc B 2 in
    let p4 : B ^ 4 ≡ B ^ 3 * B = pow-suc B 3 in
    record {
      none = p0;
      one = rw (p1, p0) (omega arith);
      two = rw (p2, p1, p0) (omega arith);
      three = rw (p3, p2, p1, p0) (omega arith);
      four = rw (p4, p3, p2, p1, p0) (omega arith);
    }

-- The number of bins is at most 4,096 = 2 ^ 12.
pub record Small (B : ℕ) : Type 0 where
  pub two : B * B ≤ 16777216
  pub three : B * B * B ≤ 68719476736
  pub four : B * B * (B * B) ≤ 281474976710656

pub small : (B : ℕ) → B ≤ 4096 → Small B
small B h =
    let b2 : B * B ≤ 16777216 = mul-le-mul h h in
    record { two = b2; three = mul-le-mul b2 h; four = mul-le-mul b2 b2 }

-- ---- the next n codes, for n = 1, 2, 4, 8 and 16
pub next_1 : (a b lo : List ℕ) (B m : ℕ) → Sums a lo B 1 m → Doubled a b 1 (B * B * (B * B)) → Sums b lo B 2 (m + (B * B * (B * B)))
next_1 a b lo B m =
    next 1 (B * B * (B * B)) a b lo B m (λ i h.
    let z : B ^ 4 ≡ B * B * (B * B) = (powers B).four in
    let b16 : (1 + i) / 16 % 2 ≡ i / 16 % 2 = omega arith in
    let b8 : (1 + i) / 8 % 2 ≡ i / 8 % 2 = omega arith in
    let b4 : (1 + i) / 4 % 2 ≡ i / 4 % 2 = omega arith in
    let b2 : (1 + i) / 2 % 2 ≡ i / 2 % 2 = omega arith in
    let on : (1 + i) % 2 ≡ 1 = omega arith in
    let off : i % 2 ≡ 0 = omega arith in
    rw (b16, b8, b4, b2, on, off, z) (omega arith))

pub next_2 : (a b lo : List ℕ) (B m : ℕ) → Sums a lo B 2 m → Doubled a b 2 (B * B * B) → Sums b lo B 4 (m + (B * B * B))
next_2 a b lo B m =
    next 2 (B * B * B) a b lo B m (λ i h.
    let z : B ^ 3 ≡ B * B * B = (powers B).three in
    let b16 : (2 + i) / 16 % 2 ≡ i / 16 % 2 = omega arith in
    let b8 : (2 + i) / 8 % 2 ≡ i / 8 % 2 = omega arith in
    let b4 : (2 + i) / 4 % 2 ≡ i / 4 % 2 = omega arith in
    let on : (2 + i) / 2 % 2 ≡ 1 = omega arith in
    let off : i / 2 % 2 ≡ 0 = omega arith in
    let b1 : (2 + i) % 2 ≡ i % 2 = omega arith in
    rw (b16, b8, b4, on, off, b1, z) (omega arith))

pub next_4 : (a b lo : List ℕ) (B m : ℕ) → Sums a lo B 4 m → Doubled a b 4 (B * B) → Sums b lo B 8 (m + (B * B))
next_4 a b lo B m =
    next 4 (B * B) a b lo B m (λ i h.
    let z : B ^ 2 ≡ B * B = (powers B).two in
    let b16 : (4 + i) / 16 % 2 ≡ i / 16 % 2 = omega arith in
    let b8 : (4 + i) / 8 % 2 ≡ i / 8 % 2 = omega arith in
    let on : (4 + i) / 4 % 2 ≡ 1 = omega arith in
    let off : i / 4 % 2 ≡ 0 = omega arith in
    let b2 : (4 + i) / 2 % 2 ≡ i / 2 % 2 = omega arith in
    let b1 : (4 + i) % 2 ≡ i % 2 = omega arith in
    rw (b16, b8, on, off, b2, b1, z) (omega arith))

pub next_8 : (a b lo : List ℕ) (B m : ℕ) → Sums a lo B 8 m → Doubled a b 8 (B) → Sums b lo B 16 (m + B)
next_8 a b lo B m =
    next 8 (B) a b lo B m (λ i h.
    let z : B ^ 1 ≡ B = (powers B).one in
    let b16 : (8 + i) / 16 % 2 ≡ i / 16 % 2 = omega arith in
    let on : (8 + i) / 8 % 2 ≡ 1 = omega arith in
    let off : i / 8 % 2 ≡ 0 = omega arith in
    let b4 : (8 + i) / 4 % 2 ≡ i / 4 % 2 = omega arith in
    let b2 : (8 + i) / 2 % 2 ≡ i / 2 % 2 = omega arith in
    let b1 : (8 + i) % 2 ≡ i % 2 = omega arith in
    rw (b16, on, off, b4, b2, b1, z) (omega arith))

pub next_16 : (a b lo : List ℕ) (B m : ℕ) → Sums a lo B 16 m → Doubled a b 16 (1) → Sums b lo B 32 (m + 1)
next_16 a b lo B m =
    next 16 (1) a b lo B m (λ i h.
    let z : B ^ 0 ≡ 1 = (powers B).none in
    let on : (16 + i) / 16 % 2 ≡ 1 = omega arith in
    let off : i / 16 % 2 ≡ 0 = omega arith in
    let b8 : (16 + i) / 8 % 2 ≡ i / 8 % 2 = omega arith in
    let b4 : (16 + i) / 4 % 2 ≡ i / 4 % 2 = omega arith in
    let b2 : (16 + i) / 2 % 2 ≡ i / 2 % 2 = omega arith in
    let b1 : (16 + i) % 2 ≡ i % 2 = omega arith in
    rw (on, off, b8, b4, b2, b1, z) (omega arith))

-- ---- what `fill` asks and ensures
pub sums_first : (a lo : List ℕ) (B h : ℕ) → length a ≡ 32 → h ≡ hash_of lo B → h < 4611686018427387904 → Sums (set a 0 h) lo B 1 4611686018427387904
sums_first a lo B h l e b =
    let s : get_or (set a 0 h) 0 0 ≡ h = get_or-set_same a 0 h 0 (omega arith) in
    record {
      each = λ x k.
          let z : x ≡ 0 = omega arith in
          subst (λ (y : ℕ). get_or (set a 0 h) y 0 ≡ hash_of (key_of_code lo y) B) (sym z) (s ∙ omega (arith, e, hash_weight lo B 0));
      below = λ x k.
          let z : x ≡ 0 = omega arith in
          subst (λ (y : ℕ). get_or (set a 0 h) y 0 < 4611686018427387904) (sym z) (omega arith);
      long = length-set a 0 h ∙ l;
    }

pub sums_room : (a lo : List ℕ) (B n m v : ℕ) → Sums a lo B n m → n ≤ 16 → m + v ≤ 18446744073709551616 → Room a n v
sums_room a lo B n m v s h k = record { each = λ i p. omega (arith, s.below i p); half = h; long = s.long }

pub sums_within : (a lo : List ℕ) (B n m m' : ℕ) → m ≤ m' → Sums a lo B n m → Sums a lo B n m'
sums_within a lo B n m m' h s = record { each = s.each; below = λ x k. omega (arith, s.below x k); long = s.long }
