-- The list has the keys in the ranges that never fall, and no others. Assumes nothing.
use mathlib.Core.Path.{◌≡◌, refl, sym, ap, ◌∙◌, subst}
use mathlib.Core.Logic.{◌⊎◌, inl, inr}
use Prim.Native.Nat.{ℕ, zero, suc, ◌+◌, ◌-◌, ◌≤◌, ◌<◌, max}
use native.Mathlib.Omega.{arith}
use mathlib.Core.Bool.{Bool, true, false, cond}
use mathlib.Core.List.{List, [], ◌∷◌, ◌++◌}
use lib.Dec.{eqb}
use lib.ListN.{get_or, set}
use Rattle.pattern_keys.specs.Keys.{concat_map, run, part_values, level, start, in_range, squared_distance, at_distance, nearest_first, farthest, keys_of}
use Rattle.pattern_keys.specs.Listed.{Has, here, there, Listed}
use Rattle.pattern_keys.specs.KeysClaims.{KeysAll, KeysOnly}
use Rattle.pattern_keys.proofs.KeyCount.{keys_has}

pub has_none : {k : List ℕ} → Has k [] → ⊥
has_none h = elim h [ ]

pub has_one : {k : List ℕ} (x : List ℕ) → Has k (x ∷ []) → k ≡ x
has_one x (here l) = refl
has_one x (there y h) = absurd (has_none h)

pub has_split : {k : List ℕ} (l m : List (List ℕ)) → Has k (l ++ m) → Has k l ⊎ Has k m
has_split [] m h = inr h
has_split (x ∷ l) m (here t) = inl (here l)
has_split (x ∷ l) m (there y h) = elim (has_split l m h) [ inl a ↦ inl (there x a) | inr b ↦ inr b ]

-- The key k is in the list that f gives for some key of ks.
pub record From (f : List ℕ → List (List ℕ)) (k : List ℕ) (ks : List (List ℕ)) : Type 0 where
  pub x : List ℕ
  pub is : Has x ks
  pub gives : Has k (f x)

pub concat_map_from : (f : List ℕ → List (List ℕ)) {k : List ℕ} (ks : List (List ℕ)) → Has k (concat_map f ks) → From f k ks
unfolding concat_map
concat_map_from f [] h = absurd (has_none h)
concat_map_from f (y ∷ ks) h =
    elim (has_split (f y) (concat_map f ks) h) [
      | inl a ↦ record { x = y; is = here ks; gives = a }
      | inr b ↦ let r = concat_map_from f ks b in record { x = r.x; is = there y r.is; gives = r.gives }
    ]

pub record Value (j a n : ℕ) (k y : List ℕ) : Type 0 where
  pub i : ℕ
  pub below : i < n
  pub is : y ≡ set k j (a + i)

pub run_from : (j a n : ℕ) (k : List ℕ) {y : List ℕ} → Has y (run j a n k) → Value j a n k y
unfolding run
run_from j a zero k h = absurd (has_none h)
run_from j a (suc n) k h =
    elim (has_split (run j a n k) (set k j (a + n) ∷ []) h) [
      | inl p ↦ let r = run_from j a n k p in record { i = r.i; below = omega (arith, r.below); is = r.is }
      | inr q ↦ record { i = n; below = omega arith; is = has_one (set k j (a + n)) q }
    ]

pub record Next (b j lo hi : ℕ) (k y : List ℕ) : Type 0 where
  pub v : ℕ
  pub low : lo ≤ v
  pub after : get_or k b 0 ≤ v
  pub high : v ≤ hi
  pub is : y ≡ set k j v

pub part_values_from : (b j lo hi : ℕ) (k : List ℕ) {y : List ℕ} → Has y (part_values b j lo hi k) → Next b j lo hi k y
unfolding part_values
part_values_from b j lo hi k h =
    let a = max lo (get_or k b 0) in
    let r = run_from j a (suc hi - a) k h in
    let w = r.below in
    record { v = a + r.i; low = omega arith; after = omega arith; high = omega arith; is = r.is }

pub in_range_from : (lo hi : List ℕ) {k : List ℕ} → Has k (in_range lo hi) → Listed lo hi k
unfolding in_range
in_range_from lo hi {k} h =
    let f4 = concat_map_from (part_values 3 4 (get_or lo 4 0) (get_or hi 4 0)) (level 3 lo hi (level 2 lo hi (level 1 lo hi (level 0 lo hi start)))) h in
    let f3 = concat_map_from (part_values 2 3 (get_or lo 3 0) (get_or hi 3 0)) (level 2 lo hi (level 1 lo hi (level 0 lo hi start))) f4.is in
    let f2 = concat_map_from (part_values 1 2 (get_or lo 2 0) (get_or hi 2 0)) (level 1 lo hi (level 0 lo hi start)) f3.is in
    let f1 = concat_map_from (part_values 0 1 (get_or lo 1 0) (get_or hi 1 0)) (level 0 lo hi start) f2.is in
    let f0 = concat_map_from (part_values 0 0 (get_or lo 0 0) (get_or hi 0 0)) start f1.is in
    let n4 = part_values_from 3 4 (get_or lo 4 0) (get_or hi 4 0) f4.x f4.gives in
    let n3 = part_values_from 2 3 (get_or lo 3 0) (get_or hi 3 0) f3.x f3.gives in
    let n2 = part_values_from 1 2 (get_or lo 2 0) (get_or hi 2 0) f2.x f2.gives in
    let n1 = part_values_from 0 1 (get_or lo 1 0) (get_or hi 1 0) f1.x f1.gives in
    let n0 = part_values_from 0 0 (get_or lo 0 0) (get_or hi 0 0) f0.x f0.gives in
    let z = has_one (0 ∷ 0 ∷ 0 ∷ 0 ∷ 0 ∷ []) f0.is in
    let e0 : f1.x ≡ n0.v ∷ 0 ∷ 0 ∷ 0 ∷ 0 ∷ [] = n0.is ∙ ap (λ (y : List ℕ). set y 0 n0.v) z in
    let e1 : f2.x ≡ n0.v ∷ n1.v ∷ 0 ∷ 0 ∷ 0 ∷ [] = n1.is ∙ ap (λ (y : List ℕ). set y 1 n1.v) e0 in
    let e2 : f3.x ≡ n0.v ∷ n1.v ∷ n2.v ∷ 0 ∷ 0 ∷ [] = n2.is ∙ ap (λ (y : List ℕ). set y 2 n2.v) e1 in
    let e3 : f4.x ≡ n0.v ∷ n1.v ∷ n2.v ∷ n3.v ∷ 0 ∷ [] = n3.is ∙ ap (λ (y : List ℕ). set y 3 n3.v) e2 in
    record {
      p = n0.v;
      q = n1.v;
      r = n2.v;
      s = n3.v;
      t = n4.v;
      is = n4.is ∙ ap (λ (y : List ℕ). set y 4 n4.v) e3;
      rises = (
        subst (λ (y : List ℕ). get_or y 0 0 ≤ n1.v) e0 n1.after,
        subst (λ (y : List ℕ). get_or y 1 0 ≤ n2.v) e1 n2.after,
        subst (λ (y : List ℕ). get_or y 2 0 ≤ n3.v) e2 n3.after,
        subst (λ (y : List ℕ). get_or y 3 0 ≤ n4.v) e3 n4.after,
      );
      first = (n0.low, n0.high);
      second = (n1.low, n1.high);
      third = (n2.low, n2.high);
      fourth = (n3.low, n3.high);
      fifth = (n4.low, n4.high);
    }

at_from : (c : List ℕ) (d : ℕ) (x : List ℕ) {k : List ℕ} → Has k (at_distance c d x) → k ≡ x
unfolding at_distance
at_from c d x {k} h = go (eqb (squared_distance c x) d) h
  where
    go : (b : Bool) → Has k (cond b (x ∷ []) []) → k ≡ x
    go true g = has_one x g
    go false g = absurd (has_none g)

nearest_first_from : (c : List ℕ) (ks : List (List ℕ)) (n : ℕ) {k : List ℕ} → Has k (nearest_first c ks n) → Has k ks
unfolding nearest_first
nearest_first_from c ks zero h = absurd (has_none h)
nearest_first_from c ks (suc d) {k} h =
    elim (has_split (nearest_first c ks d) (concat_map (at_distance c d) ks) h) [
      | inl a ↦ nearest_first_from c ks d a
      | inr b ↦ let r = concat_map_from (at_distance c d) ks b in subst (λ (y : List ℕ). Has y ks) (sym (at_from c d r.x r.gives)) r.is
    ]

pub keys_only : KeysOnly
unfolding keys_of
keys_only c lo hi k h = in_range_from lo hi (nearest_first_from c (in_range lo hi) (suc (farthest c lo hi)) h)

pub keys_all : KeysAll
keys_all c lo hi k l =
    subst (λ (y : List ℕ). Has y (keys_of c lo hi)) (sym l.is)
    (keys_has c lo hi l.p l.q l.r l.s l.t l.first l.second l.third l.fourth l.fifth l.rises.0 l.rises.1 l.rises.2 l.rises.3)
