-- How many keys the list has, and that it has every key.
--   keys_length  there are at most 1,024 keys, where each part has at most 4 values
--   keys_has     every key in the ranges that never falls is in the list
-- Assumes nothing.
use mathlib.Core.Path.{◌≡◌, refl, sym, ap, ◌∙◌, subst}
use mathlib.Core.Logic.{inl, inr}
use Prim.Native.Nat.{ℕ, zero, suc, ◌+◌, ◌-◌, ◌≤◌, ◌<◌, max}
use native.Mathlib.Omega.{arith}
use native.Mathlib.Nat.{le_trans, mul-le-mul}
use native.Mathlib.Numerals.{add-one}
use mathlib.Core.Bool.{Bool, true, false, cond}
use mathlib.Core.List.{List, [], ◌∷◌, ◌++◌}
use borrow.Author.Tests.{lt-ltb, le-ltb}
use lib.Dec.{ltb}
use lib.ListN.{length, get_or, set, length-append}
use Rattle.numeric.proofs.Order.{lt_or_le}
use Rattle.pattern_keys.specs.Keys.{concat_map, run, part_values, level, start, in_range, squared_difference, squared_distance, at_distance, nearest_first, farther, farthest, keys_of}
use Rattle.pattern_keys.specs.DistanceSortSteps.{Narrow}
use Rattle.pattern_keys.specs.Listed.{Has, here, there, Part}
use Rattle.pattern_keys.proofs.Lists.{at_yes, at_no, level_length}

-- ---- how many
-- The number 1 where a is below n, and 0 otherwise.
unfoldable pub counts : ℕ → ℕ → ℕ
counts a n = cond (ltb a n) 1 0

pub counts_yes : (a n : ℕ) → a < n → counts a n ≡ 1
unfolding counts
counts_yes a n h = ap (λ (b : Bool). cond b 1 0) (lt-ltb a n h)

pub counts_no : (a n : ℕ) → n ≤ a → counts a n ≡ 0
unfolding counts
counts_no a n h = ap (λ (b : Bool). cond b 1 0) (le-ltb a n h)

pub counts_most : (a n : ℕ) → counts a n ≤ 1
unfolding counts
counts_most a n = go (ltb a n)
  where
    go : (b : Bool) → cond b 1 0 ≤ 1
    go true = omega arith
    go false = omega arith

counts_more : (c k : List ℕ) (d : ℕ) → counts (squared_distance c k) (d + 1) ≡ counts (squared_distance c k) d + length (at_distance c d k)
counts_more c k d =
    elim (lt_or_le (squared_distance c k) d) [
      | inl p ↦ omega (arith, counts_yes (squared_distance c k) (d + 1) (omega arith), counts_yes (squared_distance c k) d p, ap length (at_no c k d (λ e. omega arith)))
      | inr p ↦ elim (lt_or_le d (squared_distance c k)) [
        | inl q ↦ omega (arith, counts_no (squared_distance c k) (d + 1) (omega arith), counts_no (squared_distance c k) d p, ap length (at_no c k d (λ e. omega arith)))
        | inr q ↦ omega (arith, counts_yes (squared_distance c k) (d + 1) (omega arith), counts_no (squared_distance c k) d p, ap length (at_yes c k d (omega arith)))
      ]
    ]

nearest_first_cons : (c k : List ℕ) (ks : List (List ℕ)) (n : ℕ) → length (nearest_first c (k ∷ ks) n) ≡ counts (squared_distance c k) n + length (nearest_first c ks n)
unfolding nearest_first concat_map
nearest_first_cons c k ks zero = omega (arith, counts_no (squared_distance c k) 0 (omega arith))
nearest_first_cons c k ks (suc d) =
    let m : counts (squared_distance c k) (suc d) ≡ counts (squared_distance c k) d + length (at_distance c d k) = ap (counts (squared_distance c k)) (sym (add-one d)) ∙ counts_more c k d in
    omega (
      arith,
      length-append (nearest_first c (k ∷ ks) d) (at_distance c d k ++ concat_map (at_distance c d) ks),
      length-append (at_distance c d k) (concat_map (at_distance c d) ks),
      length-append (nearest_first c ks d) (concat_map (at_distance c d) ks),
      nearest_first_cons c k ks d,
      m,
    )

nearest_first_none : (c : List ℕ) (n : ℕ) → length (nearest_first c [] n) ≡ 0
unfolding nearest_first concat_map
nearest_first_none c zero = refl
nearest_first_none c (suc d) = omega (arith, length-append {A = List ℕ} (nearest_first c [] d) [], nearest_first_none c d)

pub nearest_first_length : (c : List ℕ) (ks : List (List ℕ)) (n : ℕ) → length (nearest_first c ks n) ≤ length ks
nearest_first_length c [] n = omega (arith, nearest_first_none c n)
nearest_first_length c (k ∷ ks) n = omega (arith, nearest_first_cons c k ks n, nearest_first_length c ks n, counts_most (squared_distance c k) n)

pub in_range_length : (lo hi : List ℕ) → Narrow lo hi → length (in_range lo hi) ≤ 1024
unfolding in_range
in_range_length lo hi w =
    let l0 = level 0 lo hi start in
    let l1 = level 1 lo hi l0 in
    let l2 = level 2 lo hi l1 in
    let l3 = level 3 lo hi l2 in
    omega (
      arith,
      level_length 0 0 (get_or lo 0 0) (get_or hi 0 0) start w.first,
      level_length 0 1 (get_or lo 1 0) (get_or hi 1 0) l0 w.second,
      level_length 1 2 (get_or lo 2 0) (get_or hi 2 0) l1 w.third,
      level_length 2 3 (get_or lo 3 0) (get_or hi 3 0) l2 w.fourth,
      level_length 3 4 (get_or lo 4 0) (get_or hi 4 0) l3 w.fifth,
    )

pub keys_length : (c lo hi : List ℕ) → Narrow lo hi → length (keys_of c lo hi) ≤ 1024
unfolding keys_of
keys_length c lo hi w = le_trans (nearest_first_length c (in_range lo hi) (suc (farthest c lo hi))) (in_range_length lo hi w)

-- ---- which
has_left : {k : List ℕ} (l m : List (List ℕ)) → Has k l → Has k (l ++ m)
has_left l m (here t) = here (t ++ m)
has_left l m (there x {l = t} h) = there x (has_left t m h)

has_right : {k : List ℕ} (l m : List (List ℕ)) → Has k m → Has k (l ++ m)
has_right [] m h = h
has_right (x ∷ l) m h = there x (has_right l m h)

concat_map_has : (f : List ℕ → List (List ℕ)) {k x : List ℕ} (ks : List (List ℕ)) → Has x ks → Has k (f x) → Has k (concat_map f ks)
unfolding concat_map
concat_map_has f {k} {x} ks (here t) h = has_left (f x) (concat_map f t) h
concat_map_has f ks (there y {l = t} g) h = has_right (f y) (concat_map f t) (concat_map_has f t g h)

run_has : (j a n i : ℕ) (k : List ℕ) → i < n → Has (set k j (a + i)) (run j a n k)
unfolding run
run_has j a zero i k h = absurd (omega arith)
run_has j a (suc n) i k h =
    elim (lt_or_le i n) [
      | inl p ↦ has_left (run j a n k) (set k j (a + n) ∷ []) (run_has j a n i k p)
      | inr p ↦ let e : i ≡ n = omega arith in has_right (run j a n k) (set k j (a + n) ∷ []) (rw e (here []))
    ]

part_values_has : (b j lo hi v : ℕ) (k : List ℕ) → lo ≤ v → get_or k b 0 ≤ v → v ≤ hi → Has (set k j v) (part_values b j lo hi k)
unfolding part_values
part_values_has b j lo hi v k p q r =
    let a = max lo (get_or k b 0) in
    let e : a + (v - a) ≡ v = omega arith in
    subst (λ (z : ℕ). Has (set k j z) (run j a (suc hi - a) k)) e (run_has j a (suc hi - a) (v - a) k (omega arith))

module _ (lo hi : List ℕ) (p q r s t : ℕ) (P : Part 0 p lo hi) (Q : Part 1 q lo hi) (R : Part 2 r lo hi) (S : Part 3 s lo hi) (U : Part 4 t lo hi) where
  pub in_range_has : p ≤ q → q ≤ r → r ≤ s → s ≤ t → Has (p ∷ q ∷ r ∷ s ∷ t ∷ []) (in_range lo hi)
  unfolding in_range
  in_range_has pq qr rs st =
      let l0 = level 0 lo hi start in
      let l1 = level 1 lo hi l0 in
      let l2 = level 2 lo hi l1 in
      let l3 = level 3 lo hi l2 in
      let h0 = concat_map_has (part_values 0 0 (get_or lo 0 0) (get_or hi 0 0)) start (here []) (part_values_has 0 0 (get_or lo 0 0) (get_or hi 0 0) p (0 ∷ 0 ∷ 0 ∷ 0 ∷ 0 ∷ []) P.0 (omega arith) P.1) in
      let h1 = concat_map_has (part_values 0 1 (get_or lo 1 0) (get_or hi 1 0)) l0 h0 (part_values_has 0 1 (get_or lo 1 0) (get_or hi 1 0) q (p ∷ 0 ∷ 0 ∷ 0 ∷ 0 ∷ []) Q.0 pq Q.1) in
      let h2 = concat_map_has (part_values 1 2 (get_or lo 2 0) (get_or hi 2 0)) l1 h1 (part_values_has 1 2 (get_or lo 2 0) (get_or hi 2 0) r (p ∷ q ∷ 0 ∷ 0 ∷ 0 ∷ []) R.0 qr R.1) in
      let h3 = concat_map_has (part_values 2 3 (get_or lo 3 0) (get_or hi 3 0)) l2 h2 (part_values_has 2 3 (get_or lo 3 0) (get_or hi 3 0) s (p ∷ q ∷ r ∷ 0 ∷ 0 ∷ []) S.0 rs S.1) in
      concat_map_has (part_values 3 4 (get_or lo 4 0) (get_or hi 4 0)) l3 h3 (part_values_has 3 4 (get_or lo 4 0) (get_or hi 4 0) t (p ∷ q ∷ r ∷ s ∷ 0 ∷ []) U.0 st U.1)

at_has : (c k : List ℕ) → Has k (at_distance c (squared_distance c k) k)
at_has c k = rw (at_yes c k (squared_distance c k) refl) (here [])

nearest_first_has : (c k : List ℕ) (ks : List (List ℕ)) (n : ℕ) → Has k ks → squared_distance c k < n → Has k (nearest_first c ks n)
unfolding nearest_first
nearest_first_has c k ks zero h p = absurd (omega arith)
nearest_first_has c k ks (suc d) h p =
    elim (lt_or_le (squared_distance c k) d) [
      | inl q ↦ has_left (nearest_first c ks d) (concat_map (at_distance c d) ks) (nearest_first_has c k ks d h q)
      | inr q ↦ let e : squared_distance c k ≡ d = omega arith in has_right (nearest_first c ks d) (concat_map (at_distance c d) ks) (concat_map_has (at_distance c d) ks h (subst (λ (z : ℕ). Has k (at_distance c z k)) e (at_has c k)))
    ]

squared_difference_within : (c lo hi v : ℕ) → lo ≤ v → v ≤ hi → squared_difference c v ≤ max (squared_difference c lo) (squared_difference c hi)
unfolding squared_difference
squared_difference_within c lo hi v p q =
    elim (lt_or_le c v) [
      | inl h ↦ let a : c - v + (v - c) ≤ c - hi + (hi - c) = omega arith in let m = mul-le-mul a a in omega arith
      | inr h ↦ let a : c - v + (v - c) ≤ c - lo + (lo - c) = omega arith in let m = mul-le-mul a a in omega arith
    ]

-- Every key in the ranges that never falls is in the list.
module _ (c lo hi : List ℕ) (p q r s t : ℕ) (P : Part 0 p lo hi) (Q : Part 1 q lo hi) (R : Part 2 r lo hi) (S : Part 3 s lo hi) (U : Part 4 t lo hi) where
  pub squared_distance_within : squared_distance c (p ∷ q ∷ r ∷ s ∷ t ∷ []) ≤ farthest c lo hi
  unfolding squared_distance farthest farther
  squared_distance_within =
      omega (
        arith,
        squared_difference_within (get_or c 0 0) (get_or lo 0 0) (get_or hi 0 0) p P.0 P.1,
        squared_difference_within (get_or c 1 0) (get_or lo 1 0) (get_or hi 1 0) q Q.0 Q.1,
        squared_difference_within (get_or c 2 0) (get_or lo 2 0) (get_or hi 2 0) r R.0 R.1,
        squared_difference_within (get_or c 3 0) (get_or lo 3 0) (get_or hi 3 0) s S.0 S.1,
        squared_difference_within (get_or c 4 0) (get_or lo 4 0) (get_or hi 4 0) t U.0 U.1,
      )

  pub keys_has : p ≤ q → q ≤ r → r ≤ s → s ≤ t → Has (p ∷ q ∷ r ∷ s ∷ t ∷ []) (keys_of c lo hi)
  unfolding keys_of
  keys_has pq qr rs st =
      nearest_first_has c (p ∷ q ∷ r ∷ s ∷ t ∷ []) (in_range lo hi) (suc (farthest c lo hi)) (in_range_has lo hi p q r s t P Q R S U pq qr rs st) (omega (arith, squared_distance_within))

pub has_some : {k : List ℕ} (l : List (List ℕ)) → Has k l → 0 < length l
has_some l (here t) = omega arith
has_some l (there x h) = omega arith
