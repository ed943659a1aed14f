-- Sets of codes as words, and tests of all 32 codes that the checker computes. Assumes nothing.
use mathlib.Core.Path.{◌≡◌, refl, sym, ap, ◌∙◌, subst}
use mathlib.Core.Logic.{inl, inr}
use mathlib.Core.Bool.{Bool, true, false}
use mathlib.Core.List.{List}
use Prim.Native.Nat.{ℕ, zero, suc, ◌/◌, ◌%◌, ◌^◌, ◌<◌}
use native.Mathlib.Omega.{arith}
use borrow.Author.Tests.{eqb-true, eq-eqb}
use lib.Bits.{bit_and, and_shr, and_mod}
use lib.Dec.{T, eqb, eqb→eq}
use lib.ListN.{get_or}
use Rattle.numeric.proofs.Order.{lt_or_le}
use Rattle.pattern_keys.specs.Codes.{has}
use Rattle.pattern_keys.specs.ValidCodes.{masked, single, ranged_of, level, valid_of}

-- ---- tests
abbrev pub both : Bool → Bool → Bool
both true b = b
both false b = false

pub both_left : (a b : Bool) → T (both a b) → T a
both_left true b t = tt
both_left false b t = t

pub both_right : (a b : Bool) → T (both a b) → T b
both_right true b t = t
both_right false b t = absurd t

pub both_of : (a b : Bool) → T a → T b → T (both a b)
both_of true b s t = t
both_of false b s t = absurd s

abbrev pub implies : Bool → Bool → Bool
implies true b = b
implies false b = true

abbrev pub same : Bool → Bool → Bool
same true b = b
same false true = false
same false false = true

same_is : (a b : Bool) → T (same a b) → a ≡ b
same_is true true t = refl
same_is true false t = absurd t
same_is false true t = absurd t
same_is false false t = refl

-- Whether f is true of each number below n.
abbrev pub below : (ℕ → Bool) → ℕ → Bool
below f zero = true
below f (suc n) = both (below f n) (f n)

pub at : (f : ℕ → Bool) (n : ℕ) → T (below f n) → (k : ℕ) → k < n → T (f k)
at f zero t k h = absurd (omega arith)
at f (suc n) t k h =
    elim (lt_or_le k n) [
      | inl p ↦ at f n (both_left (below f n) (f n) t) k p
      | inr p ↦ let e : n ≡ k = omega arith in subst (λ (z : ℕ). T (f z)) e (both_right (below f n) (f n) t)
    ]

-- ---- what is in a set
both_bits : (a b : ℕ) → a < 2 → b < 2 → eqb (bit_and a b) 1 ≡ both (eqb a 1) (eqb b 1)
both_bits zero zero p q = refl
both_bits zero (suc zero) p q = refl
both_bits (suc zero) zero p q = refl
both_bits (suc zero) (suc zero) p q = refl
both_bits (suc (suc a)) b p q = absurd (omega arith)
both_bits zero (suc (suc b)) p q = absurd (omega arith)
both_bits (suc zero) (suc (suc b)) p q = absurd (omega arith)

has_and : (v m x : ℕ) → has (bit_and v m) x ≡ both (has v x) (has m x)
has_and v m x =
    ap (λ (z : ℕ). eqb z 1) (ap (λ (z : ℕ). z % 2) (and_shr v m x) ∙ and_mod (v / 2 ^ x) (m / 2 ^ x) 1)
    ∙ both_bits (v / 2 ^ x % 2) (m / 2 ^ x % 2) (omega arith) (omega arith)

pub masked_of : (v : ℕ) (t : Bool) (m x : ℕ) → T (has v x) → T (implies t (has m x)) → T (has (masked v t m) x)
unfolding masked
masked_of v true m x p q = subst T (sym (has_and v m x)) (both_of (has v x) (has m x) p q)
masked_of v false m x p q = p

pub masked_was : (v : ℕ) (t : Bool) (m x : ℕ) → T (has (masked v t m) x) → T (has v x)
unfolding masked
masked_was v true m x p = both_left (has v x) (has m x) (subst T (has_and v m x) p)
masked_was v false m x p = p

pub masked_is : (v : ℕ) (t : Bool) (m x : ℕ) → T (has (masked v t m) x) → T (implies t (has m x))
unfolding masked
masked_is v true m x p = both_right (has v x) (has m x) (subst T (has_and v m x) p)
masked_is v false m x p = tt

-- ---- the masks
pub mask : (m : ℕ) (f : ℕ → Bool) → T (below (λ (x : ℕ). same (has m x) (f x)) 32) → (x : ℕ) → x < 32 → has m x ≡ f x
mask m f t x h = same_is (has m x) (f x) (at (λ (z : ℕ). same (has m z) (f z)) 32 t x h)

eqb_of : (a b : ℕ) → a ≡ b → T (eqb a b)
eqb_of a b e = subst (λ (z : Bool). T z) (sym (eq-eqb a b e)) tt

implied : (a b : ℕ) (c : Bool) → T (implies (eqb a b) c) → a ≡ b → T c
implied a b c t e = subst (λ (z : Bool). T (implies z c)) (eq-eqb a b e) t

pub imply : (a b : ℕ) (c : Bool) → (a ≡ b → T c) → T (implies (eqb a b) c)
imply a b c f = go (eqb a b) (λ e. f (eqb-true a b e))
  where
    go : (t : Bool) → (t ≡ true → T c) → T (implies t c)
    go true g = g refl
    go false g = tt

-- The code x stands for a key in the ranges that never falls, where the lower ends never fall.
pub record Good (lo hi : List ℕ) (x : ℕ) : Type 0 where
  pub first : get_or lo 0 0 ≡ get_or hi 0 0 → x / 16 % 2 ≡ 0
  pub second : get_or lo 1 0 ≡ get_or hi 1 0 → x / 8 % 2 ≡ 0
  pub third : get_or lo 2 0 ≡ get_or hi 2 0 → x / 4 % 2 ≡ 0
  pub fourth : get_or lo 3 0 ≡ get_or hi 3 0 → x / 2 % 2 ≡ 0
  pub fifth : get_or lo 4 0 ≡ get_or hi 4 0 → x % 2 ≡ 0
  pub rise0 : get_or lo 0 0 ≡ get_or lo 1 0 → x / 16 % 2 ≡ 1 → x / 8 % 2 ≡ 1
  pub rise1 : get_or lo 1 0 ≡ get_or lo 2 0 → x / 8 % 2 ≡ 1 → x / 4 % 2 ≡ 1
  pub rise2 : get_or lo 2 0 ≡ get_or lo 3 0 → x / 4 % 2 ≡ 1 → x / 2 % 2 ≡ 1
  pub rise3 : get_or lo 3 0 ≡ get_or lo 4 0 → x / 2 % 2 ≡ 1 → x % 2 ≡ 1

module _ (x : ℕ) (h : x < 32) where
  m0 : has 0x0000ffff x ≡ eqb (x / 16 % 2) 0
  m0 = mask 0x0000ffff (λ (z : ℕ). eqb (z / 16 % 2) 0) tt x h

  m1 : has 0x00ff00ff x ≡ eqb (x / 8 % 2) 0
  m1 = mask 0x00ff00ff (λ (z : ℕ). eqb (z / 8 % 2) 0) tt x h

  m2 : has 0x0f0f0f0f x ≡ eqb (x / 4 % 2) 0
  m2 = mask 0x0f0f0f0f (λ (z : ℕ). eqb (z / 4 % 2) 0) tt x h

  m3 : has 0x33333333 x ≡ eqb (x / 2 % 2) 0
  m3 = mask 0x33333333 (λ (z : ℕ). eqb (z / 2 % 2) 0) tt x h

  m4 : has 0x55555555 x ≡ eqb (x % 2) 0
  m4 = mask 0x55555555 (λ (z : ℕ). eqb (z % 2) 0) tt x h

  f0 : has 0xff00ffff x ≡ implies (eqb (x / 16 % 2) 1) (eqb (x / 8 % 2) 1)
  f0 = mask 0xff00ffff (λ (z : ℕ). implies (eqb (z / 16 % 2) 1) (eqb (z / 8 % 2) 1)) tt x h

  f1 : has 0xf0fff0ff x ≡ implies (eqb (x / 8 % 2) 1) (eqb (x / 4 % 2) 1)
  f1 = mask 0xf0fff0ff (λ (z : ℕ). implies (eqb (z / 8 % 2) 1) (eqb (z / 4 % 2) 1)) tt x h

  f2 : has 0xcfcfcfcf x ≡ implies (eqb (x / 4 % 2) 1) (eqb (x / 2 % 2) 1)
  f2 = mask 0xcfcfcfcf (λ (z : ℕ). implies (eqb (z / 4 % 2) 1) (eqb (z / 2 % 2) 1)) tt x h

  f3 : has 0xbbbbbbbb x ≡ implies (eqb (x / 2 % 2) 1) (eqb (x % 2) 1)
  f3 = mask 0xbbbbbbbb (λ (z : ℕ). implies (eqb (z / 2 % 2) 1) (eqb (z % 2) 1)) tt x h

lower_only : (a b u m x : ℕ) → has m x ≡ eqb u 0 → T (implies (eqb a b) (has m x)) → a ≡ b → u ≡ 0
lower_only a b u m x e t h = eqb→eq u 0 (subst T e (implied a b (has m x) t h))

no_fall : (a b u w m x : ℕ) → has m x ≡ implies (eqb u 1) (eqb w 1) → T (implies (eqb a b) (has m x)) → a ≡ b → u ≡ 1 → w ≡ 1
no_fall a b u w m x e t h k = eqb→eq w 1 (implied u 1 (eqb w 1) (subst T e (implied a b (has m x) t h)) k)

lower_test : (a b u m x : ℕ) → has m x ≡ eqb u 0 → (a ≡ b → u ≡ 0) → T (implies (eqb a b) (has m x))
lower_test a b u m x e f = imply a b (has m x) (λ h. subst T (sym e) (eqb_of u 0 (f h)))

fall_test : (a b u w m x : ℕ) → has m x ≡ implies (eqb u 1) (eqb w 1) → (a ≡ b → u ≡ 1 → w ≡ 1) → T (implies (eqb a b) (has m x))
fall_test a b u w m x e f = imply a b (has m x) (λ h. subst T (sym e) (imply u 1 (eqb w 1) (λ k. eqb_of w 1 (f h k))))

pub valid_good : (lo hi : List ℕ) (x : ℕ) → x < 32 → T (has (valid_of lo hi) x) → Good lo hi x
unfolding valid_of ranged_of
valid_good lo hi x h p8 =
    let v0 = single 0 lo hi 0x0000ffff 0xffffffff in
    let v1 = single 1 lo hi 0x00ff00ff v0 in
    let v2 = single 2 lo hi 0x0f0f0f0f v1 in
    let v3 = single 3 lo hi 0x33333333 v2 in
    let v4 = single 4 lo hi 0x55555555 v3 in
    let v5 = level 0 lo 0xff00ffff v4 in
    let v6 = level 1 lo 0xf0fff0ff v5 in
    let v7 = level 2 lo 0xcfcfcfcf v6 in
    let l0 = get_or lo 0 0 in
    let l1 = get_or lo 1 0 in
    let l2 = get_or lo 2 0 in
    let l3 = get_or lo 3 0 in
    let l4 = get_or lo 4 0 in
    let p7 = masked_was v7 (eqb l3 l4) 0xbbbbbbbb x p8 in
    let p6 = masked_was v6 (eqb l2 l3) 0xcfcfcfcf x p7 in
    let p5 = masked_was v5 (eqb l1 l2) 0xf0fff0ff x p6 in
    let p4 = masked_was v4 (eqb l0 l1) 0xff00ffff x p5 in
    let p3 = masked_was v3 (eqb l4 (get_or hi 4 0)) 0x55555555 x p4 in
    let p2 = masked_was v2 (eqb l3 (get_or hi 3 0)) 0x33333333 x p3 in
    let p1 = masked_was v1 (eqb l2 (get_or hi 2 0)) 0x0f0f0f0f x p2 in
    let p0 = masked_was v0 (eqb l1 (get_or hi 1 0)) 0x00ff00ff x p1 in
    record {
      first = lower_only l0 (get_or hi 0 0) (x / 16 % 2) 0x0000ffff x (m0 x h) (masked_is 0xffffffff (eqb l0 (get_or hi 0 0)) 0x0000ffff x p0);
      second = lower_only l1 (get_or hi 1 0) (x / 8 % 2) 0x00ff00ff x (m1 x h) (masked_is v0 (eqb l1 (get_or hi 1 0)) 0x00ff00ff x p1);
      third = lower_only l2 (get_or hi 2 0) (x / 4 % 2) 0x0f0f0f0f x (m2 x h) (masked_is v1 (eqb l2 (get_or hi 2 0)) 0x0f0f0f0f x p2);
      fourth = lower_only l3 (get_or hi 3 0) (x / 2 % 2) 0x33333333 x (m3 x h) (masked_is v2 (eqb l3 (get_or hi 3 0)) 0x33333333 x p3);
      fifth = lower_only l4 (get_or hi 4 0) (x % 2) 0x55555555 x (m4 x h) (masked_is v3 (eqb l4 (get_or hi 4 0)) 0x55555555 x p4);
      rise0 = no_fall l0 l1 (x / 16 % 2) (x / 8 % 2) 0xff00ffff x (f0 x h) (masked_is v4 (eqb l0 l1) 0xff00ffff x p5);
      rise1 = no_fall l1 l2 (x / 8 % 2) (x / 4 % 2) 0xf0fff0ff x (f1 x h) (masked_is v5 (eqb l1 l2) 0xf0fff0ff x p6);
      rise2 = no_fall l2 l3 (x / 4 % 2) (x / 2 % 2) 0xcfcfcfcf x (f2 x h) (masked_is v6 (eqb l2 l3) 0xcfcfcfcf x p7);
      rise3 = no_fall l3 l4 (x / 2 % 2) (x % 2) 0xbbbbbbbb x (f3 x h) (masked_is v7 (eqb l3 l4) 0xbbbbbbbb x p8);
    }

all_codes : (x : ℕ) → x < 32 → T (has 0xffffffff x)
all_codes x h = at (λ (z : ℕ). has 0xffffffff z) 32 tt x h

pub good_valid : (lo hi : List ℕ) (x : ℕ) → x < 32 → Good lo hi x → T (has (valid_of lo hi) x)
unfolding valid_of ranged_of
good_valid lo hi x h g =
    let v0 = single 0 lo hi 0x0000ffff 0xffffffff in
    let v1 = single 1 lo hi 0x00ff00ff v0 in
    let v2 = single 2 lo hi 0x0f0f0f0f v1 in
    let v3 = single 3 lo hi 0x33333333 v2 in
    let v4 = single 4 lo hi 0x55555555 v3 in
    let v5 = level 0 lo 0xff00ffff v4 in
    let v6 = level 1 lo 0xf0fff0ff v5 in
    let v7 = level 2 lo 0xcfcfcfcf v6 in
    let l0 = get_or lo 0 0 in
    let l1 = get_or lo 1 0 in
    let l2 = get_or lo 2 0 in
    let l3 = get_or lo 3 0 in
    let l4 = get_or lo 4 0 in
    let p0 = masked_of 0xffffffff (eqb l0 (get_or hi 0 0)) 0x0000ffff x (all_codes x h) (lower_test l0 (get_or hi 0 0) (x / 16 % 2) 0x0000ffff x (m0 x h) g.first) in
    let p1 = masked_of v0 (eqb l1 (get_or hi 1 0)) 0x00ff00ff x p0 (lower_test l1 (get_or hi 1 0) (x / 8 % 2) 0x00ff00ff x (m1 x h) g.second) in
    let p2 = masked_of v1 (eqb l2 (get_or hi 2 0)) 0x0f0f0f0f x p1 (lower_test l2 (get_or hi 2 0) (x / 4 % 2) 0x0f0f0f0f x (m2 x h) g.third) in
    let p3 = masked_of v2 (eqb l3 (get_or hi 3 0)) 0x33333333 x p2 (lower_test l3 (get_or hi 3 0) (x / 2 % 2) 0x33333333 x (m3 x h) g.fourth) in
    let p4 = masked_of v3 (eqb l4 (get_or hi 4 0)) 0x55555555 x p3 (lower_test l4 (get_or hi 4 0) (x % 2) 0x55555555 x (m4 x h) g.fifth) in
    let p5 = masked_of v4 (eqb l0 l1) 0xff00ffff x p4 (fall_test l0 l1 (x / 16 % 2) (x / 8 % 2) 0xff00ffff x (f0 x h) g.rise0) in
    let p6 = masked_of v5 (eqb l1 l2) 0xf0fff0ff x p5 (fall_test l1 l2 (x / 8 % 2) (x / 4 % 2) 0xf0fff0ff x (f1 x h) g.rise1) in
    let p7 = masked_of v6 (eqb l2 l3) 0xcfcfcfcf x p6 (fall_test l2 l3 (x / 4 % 2) (x / 2 % 2) 0xcfcfcfcf x (f2 x h) g.rise2) in
    masked_of v7 (eqb l3 l4) 0xbbbbbbbb x p7 (fall_test l3 l4 (x / 2 % 2) (x % 2) 0xbbbbbbbb x (f3 x h) g.rise3)
