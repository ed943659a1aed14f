-- The keys of the valid codes, in the order around the code of the image key, are the list of the keys in the ranges. Assumes nothing.
use mathlib.Core.Path.{◌≡◌, refl, sym, ap, subst}
use mathlib.Core.Logic.{◌⊎◌, inl, inr}
use mathlib.Core.Bool.{Bool, true, false, cond}
use mathlib.Core.List.{List, [], ◌∷◌}
use Prim.Native.Nat.{ℕ, suc, ◌+◌, ◌-◌, ◌*◌, ◌/◌, ◌%◌, ◌≤◌, ◌<◌}
use native.Mathlib.Omega.{arith}
use native.Mathlib.Nat.{le_trans}
use borrow.Author.Tests.{eqb-true}
use lib.Dec.{T, eqb, eqb→eq}
use lib.ListN.{get_or}
use Rattle.numeric.proofs.Order.{lt_or_le}
use Rattle.pattern_keys.specs.Keys.{squared_difference, squared_distance, keys_of}
use Rattle.pattern_keys.specs.Listed.{Has, here, there, Listed, Before, Precedes, Ordered, ordered, ordered_none}
use Rattle.pattern_keys.proofs.Unique.{keys_unique}
use Rattle.pattern_keys.specs.Codes.{key_of_code, code_of, has, Pairs}
use Rattle.pattern_keys.proofs.CodeKeys.{keys_of_codes}
use Rattle.pattern_keys.specs.CodeOrder.{codes_around}
use Rattle.pattern_keys.specs.ValidCodes.{valid_of}
use Rattle.pattern_keys.proofs.CodeSets.{at, Good, valid_good, good_valid}
use Rattle.pattern_keys.proofs.CodeOrder.{differ, rank, rising, among, step, order_rises, order_all}

-- ---- codes and their bits
bits_of : (x : ℕ) → x < 32 → x ≡ x / 16 % 2 * 16 + x / 8 % 2 * 8 + x / 4 % 2 * 4 + x / 2 % 2 * 2 + x % 2
bits_of x h = eqb→eq x (x / 16 % 2 * 16 + x / 8 % 2 * 8 + x / 4 % 2 * 4 + x / 2 % 2 * 2 + x % 2) (at (λ (z : ℕ). eqb z (z / 16 % 2 * 16 + z / 8 % 2 * 8 + z / 4 % 2 * 4 + z / 2 % 2 * 2 + z % 2)) 32 tt x h)

-- The bits of a code that is put together from these bits.
pub record Bits (x p q r s t : ℕ) : Type 0 where
  pub b0 : x / 16 % 2 ≡ p
  pub b1 : x / 8 % 2 ≡ q
  pub b2 : x / 4 % 2 ≡ r
  pub b3 : x / 2 % 2 ≡ s
  pub b4 : x % 2 ≡ t
  pub small : x < 32

pub bits_are : (p q r s t : ℕ) → p ≤ 1 → q ≤ 1 → r ≤ 1 → s ≤ 1 → t ≤ 1 → Bits (p * 16 + q * 8 + r * 4 + s * 2 + t) p q r s t
bits_are p q r s t a b c d e =
    record { b0 = omega arith; b1 = omega arith; b2 = omega arith; b3 = omega arith; b4 = omega arith; small = omega arith }

-- ---- code order is lexicographic order
more : {P : ℕ → Type 0} (n : ℕ) → ((i : ℕ) → i < n → P i) → P n → (i : ℕ) → i < suc n → P i
more {P} n f p i h =
    elim (lt_or_le i n) [ inl q ↦ f i q | inr q ↦ let e : n ≡ i = omega arith in subst P e p ]

module _ (l0 l1 l2 l3 l4 p q r s t p' q' r' s' t' : ℕ) (P : p' ≤ 1) (Q : q ≤ 1) (Q' : q' ≤ 1) (R : r ≤ 1) (R' : r' ≤ 1) (S : s ≤ 1) (S' : s' ≤ 1) (T0 : t ≤ 1) (T' : t' ≤ 1) where
  lexicographic : p * 16 + q * 8 + r * 4 + s * 2 + t < p' * 16 + q' * 8 + r' * 4 + s' * 2 + t'
      → Before 5 ((l0 + p) ∷ (l1 + q) ∷ (l2 + r) ∷ (l3 + s) ∷ (l4 + t) ∷ []) ((l0 + p') ∷ (l1 + q') ∷ (l2 + r') ∷ (l3 + s') ∷ (l4 + t') ∷ [])
  lexicographic h =
      let k = (l0 + p) ∷ (l1 + q) ∷ (l2 + r) ∷ (l3 + s) ∷ (l4 + t) ∷ [] in
      let m = (l0 + p') ∷ (l1 + q') ∷ (l2 + r') ∷ (l3 + s') ∷ (l4 + t') ∷ [] in
      let s0 : (i : ℕ) → i < 0 → get_or k i 0 ≡ get_or m i 0 = λ i z. absurd (omega arith) in
      elim (lt_or_le p p') [
        | inl a ↦ record { at = 0; early = omega arith; same = s0; less = omega arith }
        | inr a ↦
            let e0 : l0 + p ≡ l0 + p' = omega arith in
            let s1 = more {P = λ (i : ℕ). get_or k i 0 ≡ get_or m i 0} 0 s0 e0 in
            elim (lt_or_le q q') [
              | inl b ↦ record { at = 1; early = omega arith; same = s1; less = omega arith }
              | inr b ↦
                  let e1 : l1 + q ≡ l1 + q' = omega arith in
                  let s2 = more {P = λ (i : ℕ). get_or k i 0 ≡ get_or m i 0} 1 s1 e1 in
                  elim (lt_or_le r r') [
                    | inl c ↦ record { at = 2; early = omega arith; same = s2; less = omega arith }
                    | inr c ↦
                        let e2 : l2 + r ≡ l2 + r' = omega arith in
                        let s3 = more {P = λ (i : ℕ). get_or k i 0 ≡ get_or m i 0} 2 s2 e2 in
                        elim (lt_or_le s s') [
                          | inl d ↦ record { at = 3; early = omega arith; same = s3; less = omega arith }
                          | inr d ↦
                              let e3 : l3 + s ≡ l3 + s' = omega arith in
                              record { at = 4; early = omega arith; same = more {P = λ (i : ℕ). get_or k i 0 ≡ get_or m i 0} 3 s3 e3; less = omega arith }
                        ]
                  ]
            ]
      ]

before : (lo : List ℕ) (x z : ℕ) → x < 32 → z < 32 → x < z → Before 5 (key_of_code lo x) (key_of_code lo z)
unfolding key_of_code
before lo x z h k l =
    lexicographic (get_or lo 0 0) (get_or lo 1 0) (get_or lo 2 0) (get_or lo 3 0) (get_or lo 4 0) (x / 16 % 2) (x / 8 % 2) (x / 4 % 2) (x / 2 % 2) (x % 2) (z / 16 % 2) (z / 8 % 2) (z / 4 % 2) (z / 2 % 2) (z % 2) (omega arith) (omega arith) (omega arith) (omega arith) (omega arith) (omega arith) (omega arith) (omega arith) (omega arith)
    (subst (λ (y : ℕ). y < z / 16 % 2 * 16 + z / 8 % 2 * 8 + z / 4 % 2 * 4 + z / 2 % 2 * 2 + z % 2) (bits_of x h) (subst (λ (y : ℕ). x < y) (bits_of z k) l))

-- ---- distance is the number of parts that differ
squared_difference_shift : (c l b y : ℕ) → c ≡ l + b → squared_difference c (l + y) ≡ squared_difference b y
unfolding squared_difference
squared_difference_shift c l b y e = let d : c - (l + y) + (l + y - c) ≡ b - y + (y - b) = omega arith in ap (λ (z : ℕ). z * z) d

module _ (c lo hi : List ℕ) (B : ℕ) (g : Pairs c lo hi B) where
  pub code_bits : Bits (code_of c lo) (get_or c 0 0 - get_or lo 0 0) (get_or c 1 0 - get_or lo 1 0) (get_or c 2 0 - get_or lo 2 0) (get_or c 3 0 - get_or lo 3 0) (get_or c 4 0 - get_or lo 4 0)
  unfolding code_of
  code_bits =
      let w = g.two in
      bits_are (get_or c 0 0 - get_or lo 0 0) (get_or c 1 0 - get_or lo 1 0) (get_or c 2 0 - get_or lo 2 0) (get_or c 3 0 - get_or lo 3 0) (get_or c 4 0 - get_or lo 4 0)
      (omega (arith, g.first.1, w.first)) (omega (arith, g.second.1, w.second)) (omega (arith, g.third.1, w.third)) (omega (arith, g.fourth.1, w.fourth)) (omega (arith, g.fifth.1, w.fifth))

  squared_distance_differ : (x : ℕ) → squared_distance c (key_of_code lo x) ≡ differ (code_of c lo) x
  unfolding squared_distance key_of_code differ
  squared_distance_differ x =
      let b = code_bits in
      let e0 = squared_difference_shift (get_or c 0 0) (get_or lo 0 0) (code_of c lo / 16 % 2) (x / 16 % 2) (omega (arith, b.b0, g.first.0)) in
      let e1 = squared_difference_shift (get_or c 1 0) (get_or lo 1 0) (code_of c lo / 8 % 2) (x / 8 % 2) (omega (arith, b.b1, g.second.0)) in
      let e2 = squared_difference_shift (get_or c 2 0) (get_or lo 2 0) (code_of c lo / 4 % 2) (x / 4 % 2) (omega (arith, b.b2, g.third.0)) in
      let e3 = squared_difference_shift (get_or c 3 0) (get_or lo 3 0) (code_of c lo / 2 % 2) (x / 2 % 2) (omega (arith, b.b3, g.fourth.0)) in
      let e4 = squared_difference_shift (get_or c 4 0) (get_or lo 4 0) (code_of c lo % 2) (x % 2) (omega (arith, b.b4, g.fifth.0)) in
      cc

  -- The key of a code of smaller rank comes first.
  by_rank : (x z : ℕ) → x < 32 → z < 32 → rank (code_of c lo) x < rank (code_of c lo) z → Precedes c (key_of_code lo x) (key_of_code lo z)
  unfolding rank
  by_rank x z h k l =
      let e = squared_distance_differ x in
      let f = squared_distance_differ z in
      elim (lt_or_le (squared_distance c (key_of_code lo x)) (squared_distance c (key_of_code lo z))) [
        | inl p ↦ inl p
        | inr p ↦ inr (omega arith, before lo x z h k (omega arith))
      ]

-- The key y of the list is that of a valid code whose rank is at least m.
pub record Coded (c : ℕ) (lo : List ℕ) (v m : ℕ) (y : List ℕ) : Type 0 where
  pub x : ℕ
  pub small : x < 32
  pub late : m ≤ rank c x
  pub valid : T (has v x)
  pub is : y ≡ key_of_code lo x

module _ (c : ℕ) (lo : List ℕ) (v : ℕ) where
  later : (m n : ℕ) (y : List ℕ) → m ≤ n → Coded c lo v n y → Coded c lo v m y
  later m n y h k = record { x = k.x; small = k.small; late = le_trans h k.late; valid = k.valid; is = k.is }

  coded_head : (b : Bool) (x m : ℕ) (ks : List (List ℕ)) {y : List ℕ} → x < 32 → m ≤ rank c x → (b ≡ true → T (has v x)) → (Has y ks → Coded c lo v (suc (rank c x)) y) → Has y (cond b (key_of_code lo x ∷ ks) ks) → Coded c lo v m y
  coded_head true x m ks s h t f (here k) = record { x = x; small = s; late = h; valid = t refl; is = refl }
  coded_head true x m ks {y} s h t f (there z i) = later m (suc (rank c x)) y (omega arith) (f i)
  coded_head false x m ks {y} s h t f i = later m (suc (rank c x)) y (omega arith) (f i)

  true_t : (b : Bool) → b ≡ true → T b
  true_t b e = subst (λ (z : Bool). T z) (sym e) tt

  pub coded : (l : List ℕ) (m : ℕ) → T (rising c m l) → (y : List ℕ) → Has y (keys_of_codes lo v l) → Coded c lo v m y
  unfolding keys_of_codes
  coded [] m t y h = absurd (elim h [ ])
  coded (x ∷ l) m t y h =
      let s = step c m x l t in
      coded_head (has v x) x m (keys_of_codes lo v l) s.small s.late (true_t (has v x)) (λ i. coded l (suc (rank c x)) s.rest y i) h

  -- The key of each valid code of the list of codes is in the list of keys.
  has_head : (b : Bool) (x : ℕ) (ks : List (List ℕ)) → T b → Has (key_of_code lo x) (cond b (key_of_code lo x ∷ ks) ks)
  has_head true x ks t = here ks
  has_head false x ks t = absurd t

  has_tail : (b : Bool) (y k : List ℕ) (ks : List (List ℕ)) → Has y ks → Has y (cond b (k ∷ ks) ks)
  has_tail true y k ks h = there k h
  has_tail false y k ks h = h

  has_either : (b : Bool) (x z : ℕ) (l : List ℕ) → (b ≡ true → x ≡ z) → T (cond b true (among x l)) → (x ≡ z) ⊎ T (among x l)
  has_either true x z l f t = inl (f refl)
  has_either false x z l f t = inr t

  pub has_code : (l : List ℕ) (x : ℕ) → T (among x l) → T (has v x) → Has (key_of_code lo x) (keys_of_codes lo v l)
  unfolding keys_of_codes among
  has_code [] x t h = absurd t
  has_code (z ∷ l) x t h =
      elim (has_either (eqb x z) x z l (eqb-true x z) t) [
        | inl e ↦ subst (λ (y : ℕ). Has (key_of_code lo x) (cond (has v y) (key_of_code lo y ∷ keys_of_codes lo v l) (keys_of_codes lo v l))) e (has_head (has v x) x (keys_of_codes lo v l) h)
        | inr u ↦ has_tail (has v z) (key_of_code lo x) (key_of_code lo z) (keys_of_codes lo v l) (has_code l x u h)
      ]

-- The list of keys is ordered.
module _ (c lo hi : List ℕ) (B : ℕ) (g : Pairs c lo hi B) where
  ordered_head : (b : Bool) (x : ℕ) (ks : List (List ℕ)) → ((y : List ℕ) → Has y ks → Precedes c (key_of_code lo x) y) → Ordered (Precedes c) ks → Ordered (Precedes c) (cond b (key_of_code lo x ∷ ks) ks)
  ordered_head true x ks f o = ordered f o
  ordered_head false x ks f o = o

  precedes : (v x : ℕ) (l : List ℕ) → x < 32 → T (rising (code_of c lo) (suc (rank (code_of c lo) x)) l) → (y : List ℕ) → Has y (keys_of_codes lo v l) → Precedes c (key_of_code lo x) y
  precedes v x l s t y h =
      let k = coded (code_of c lo) lo v l (suc (rank (code_of c lo) x)) t y h in
      subst (λ (z : List ℕ). Precedes c (key_of_code lo x) z) (sym k.is) (by_rank c lo hi B g x k.x s k.small k.late)

  codes_ordered : (v : ℕ) (l : List ℕ) (m : ℕ) → T (rising (code_of c lo) m l) → Ordered (Precedes c) (keys_of_codes lo v l)
  unfolding keys_of_codes
  codes_ordered v [] m t = ordered_none
  codes_ordered v (x ∷ l) m t =
      let s = step (code_of c lo) m x l t in
      ordered_head (has v x) x (keys_of_codes lo v l) (precedes v x l s.small s.rest) (codes_ordered v l (suc (rank (code_of c lo) x)) s.rest)

  -- A valid code stands for a key in the ranges that never falls.
  in_range : (l h u : ℕ) → l ≤ h → u ≤ 1 → (l ≡ h → u ≡ 0) → l + u ≤ h
  in_range l h u a b f = elim (lt_or_le l h) [ inl p ↦ omega arith | inr p ↦ let e = f (omega arith) in omega arith ]

  never_falls : (l k u w : ℕ) → l ≤ k → u ≤ 1 → w ≤ 1 → (l ≡ k → u ≡ 1 → w ≡ 1) → l + u ≤ k + w
  never_falls l k u w a b d f =
      elim (lt_or_le l k) [
        | inl p ↦ omega arith
        | inr p ↦ elim (lt_or_le u 1) [ inl q ↦ omega arith | inr q ↦ let e = f (omega arith) (omega arith) in omega arith ]
      ]

  good_listed : (x : ℕ) → x < 32 → Good lo hi x → Listed lo hi (key_of_code lo x)
  unfolding key_of_code
  good_listed x h k =
      record {
        p = get_or lo 0 0 + x / 16 % 2;
        q = get_or lo 1 0 + x / 8 % 2;
        r = get_or lo 2 0 + x / 4 % 2;
        s = get_or lo 3 0 + x / 2 % 2;
        t = get_or lo 4 0 + x % 2;
        is = refl;
        rises = (
          never_falls (get_or lo 0 0) (get_or lo 1 0) (x / 16 % 2) (x / 8 % 2) g.rises.0 (omega arith) (omega arith) k.rise0,
          never_falls (get_or lo 1 0) (get_or lo 2 0) (x / 8 % 2) (x / 4 % 2) g.rises.1 (omega arith) (omega arith) k.rise1,
          never_falls (get_or lo 2 0) (get_or lo 3 0) (x / 4 % 2) (x / 2 % 2) g.rises.2 (omega arith) (omega arith) k.rise2,
          never_falls (get_or lo 3 0) (get_or lo 4 0) (x / 2 % 2) (x % 2) g.rises.3 (omega arith) (omega arith) k.rise3,
        );
        first = (omega arith, in_range (get_or lo 0 0) (get_or hi 0 0) (x / 16 % 2) (le_trans g.first.0 g.first.1) (omega arith) k.first);
        second = (omega arith, in_range (get_or lo 1 0) (get_or hi 1 0) (x / 8 % 2) (le_trans g.second.0 g.second.1) (omega arith) k.second);
        third = (omega arith, in_range (get_or lo 2 0) (get_or hi 2 0) (x / 4 % 2) (le_trans g.third.0 g.third.1) (omega arith) k.third);
        fourth = (omega arith, in_range (get_or lo 3 0) (get_or hi 3 0) (x / 2 % 2) (le_trans g.fourth.0 g.fourth.1) (omega arith) k.fourth);
        fifth = (omega arith, in_range (get_or lo 4 0) (get_or hi 4 0) (x % 2) (le_trans g.fifth.0 g.fifth.1) (omega arith) k.fifth);
      }

  codes_only : (k : List ℕ) → Has k (keys_of_codes lo (valid_of lo hi) (codes_around (code_of c lo))) → Listed lo hi k
  codes_only k h =
      let d = coded (code_of c lo) lo (valid_of lo hi) (codes_around (code_of c lo)) 0 (order_rises (code_of c lo) (code_bits c lo hi B g).small) k h in
      subst (λ (y : List ℕ). Listed lo hi y) (sym d.is) (good_listed d.x d.small (valid_good lo hi d.x d.small d.valid))

  -- Every such key is that of a valid code.
  code_good : (k : List ℕ) (l : Listed lo hi k) → (x : ℕ) → Bits x (l.p - get_or lo 0 0) (l.q - get_or lo 1 0) (l.r - get_or lo 2 0) (l.s - get_or lo 3 0) (l.t - get_or lo 4 0) → Good lo hi x
  code_good k l x b =
      record {
        first = λ e. omega (arith, b.b0, l.first.1);
        second = λ e. omega (arith, b.b1, l.second.1);
        third = λ e. omega (arith, b.b2, l.third.1);
        fourth = λ e. omega (arith, b.b3, l.fourth.1);
        fifth = λ e. omega (arith, b.b4, l.fifth.1);
        rise0 = λ e u. climb (get_or lo 0 0) (get_or lo 1 0) l.p l.q (x / 16 % 2) (x / 8 % 2) b.b0 b.b1 l.rises.0 (omega arith) e u;
        rise1 = λ e u. climb (get_or lo 1 0) (get_or lo 2 0) l.q l.r (x / 8 % 2) (x / 4 % 2) b.b1 b.b2 l.rises.1 (omega arith) e u;
        rise2 = λ e u. climb (get_or lo 2 0) (get_or lo 3 0) l.r l.s (x / 4 % 2) (x / 2 % 2) b.b2 b.b3 l.rises.2 (omega arith) e u;
        rise3 = λ e u. climb (get_or lo 3 0) (get_or lo 4 0) l.s l.t (x / 2 % 2) (x % 2) b.b3 b.b4 l.rises.3 (omega arith) e u;
      }
    where
      climb : (a d p q u w : ℕ) → u ≡ p - a → w ≡ q - d → p ≤ q → w ≤ 1 → a ≡ d → u ≡ 1 → w ≡ 1
      climb a d p q u w e f h j i o = omega arith

  key_back : (k : List ℕ) (l : Listed lo hi k) → (x : ℕ) → Bits x (l.p - get_or lo 0 0) (l.q - get_or lo 1 0) (l.r - get_or lo 2 0) (l.s - get_or lo 3 0) (l.t - get_or lo 4 0) → key_of_code lo x ≡ k
  unfolding key_of_code
  key_back k l x b =
      let e0 : get_or lo 0 0 + x / 16 % 2 ≡ l.p = omega (arith, b.b0, l.first.0) in
      let e1 : get_or lo 1 0 + x / 8 % 2 ≡ l.q = omega (arith, b.b1, l.second.0) in
      let e2 : get_or lo 2 0 + x / 4 % 2 ≡ l.r = omega (arith, b.b2, l.third.0) in
      let e3 : get_or lo 3 0 + x / 2 % 2 ≡ l.s = omega (arith, b.b3, l.fourth.0) in
      let e4 : get_or lo 4 0 + x % 2 ≡ l.t = omega (arith, b.b4, l.fifth.0) in
      cc l.is

  codes_all : (k : List ℕ) → Listed lo hi k → Has k (keys_of_codes lo (valid_of lo hi) (codes_around (code_of c lo)))
  codes_all k l =
      let w = g.two in
      let p = l.p - get_or lo 0 0 in
      let q = l.q - get_or lo 1 0 in
      let r = l.r - get_or lo 2 0 in
      let s = l.s - get_or lo 3 0 in
      let t = l.t - get_or lo 4 0 in
      let x = p * 16 + q * 8 + r * 4 + s * 2 + t in
      let b = bits_are p q r s t (omega (arith, l.first.1, w.first)) (omega (arith, l.second.1, w.second)) (omega (arith, l.third.1, w.third)) (omega (arith, l.fourth.1, w.fourth)) (omega (arith, l.fifth.1, w.fifth)) in
      subst (λ (y : List ℕ). Has y (keys_of_codes lo (valid_of lo hi) (codes_around (code_of c lo)))) (key_back k l x b)
      (has_code (code_of c lo) lo (valid_of lo hi) (codes_around (code_of c lo)) x (order_all (code_of c lo) (code_bits c lo hi B g).small x b.small) (good_valid lo hi x b.small (code_good k l x b)))

  pub keys_by_codes : keys_of_codes lo (valid_of lo hi) (codes_around (code_of c lo)) ≡ keys_of c lo hi
  keys_by_codes =
      keys_unique c lo hi (keys_of_codes lo (valid_of lo hi) (codes_around (code_of c lo)))
      (codes_ordered (valid_of lo hi) (codes_around (code_of c lo)) 0 (order_rises (code_of c lo) (code_bits c lo hi B g).small))
      codes_only
      codes_all
