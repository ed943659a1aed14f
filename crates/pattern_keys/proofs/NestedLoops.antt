-- Laws of the nested loops: hashes and distances are added behind those that are there, and the loops list just the keys in the ranges.
-- Assumes nothing.
use mathlib.Core.Path.{◌≡◌, refl, sym, ap, ◌∙◌, subst}
use mathlib.Core.Logic.{inl, inr}
use Prim.Native.Nat.{ℕ, zero, suc, ◌+◌, ◌-◌, ◌*◌, ◌≤◌, ◌<◌, max}
use native.Mathlib.Omega.{arith}
use native.Mathlib.Nat.{mul-le-mul, sub_self}
use mathlib.Core.List.{List, [], ◌∷◌, ◌++◌, map}
use lib.ListN.{length, get_or, set, length-set, length-append, length-map, get_or-append}
use lib.Seq.{get_or-set_same, get_or-set_other, get_or-append-add, get_or-take}
use Rattle.numeric.proofs.Order.{lt_or_le}
use Rattle.pattern.specs.Key.{hash_of, Parts}
use Rattle.pattern_keys.specs.Keys.{concat_map, run, part_values, start, in_range, squared_difference, squared_distance, keys_of}
use Rattle.pattern_keys.specs.Listed.{Listed}
use Rattle.pattern_keys.specs.DistanceSort.{by_distance}
use Rattle.pattern_keys.specs.DistanceSortSteps.{Narrow, Holds, Near}
use Rattle.pattern_keys.proofs.Lists.{concat_map_append, concat_map_one, run_more, part_values_run}
use Rattle.pattern_keys.proofs.CodeSums.{powers}
use Rattle.pattern_keys.proofs.KeyCount.{in_range_length}
use Rattle.pattern_keys.proofs.NarrowRanges.{measured_near, by_distance_keys}
use Rattle.pattern_keys.specs.EnumerateSteps.{Hashed}
use Rattle.pattern_keys.specs.NestedLoops.{with_last, Enumerated}

-- ---- keys that are added
module _ (c : List ℕ) (B : ℕ) where
  pub enumerated_none : (h d : List ℕ) (m : ℕ) → length h ≡ 1024 → length d ≡ 1024 → Enumerated c B h d h d m m []
  enumerated_none h d m p q =
      record {
        count = omega arith;
        hash_before = λ i k. refl;
        dist_before = λ i k. refl;
        hash_written = λ i k. absurd (nothing i k);
        dist_of = λ i k. absurd (nothing i k);
        wide = p;
        long = q;
      }
    where
      nothing : (i : ℕ) → i < 0 → ⊥
      nothing i k = omega arith

  pub enumerated_chain : (h d h' d' h'' d'' : List ℕ) (m r s : ℕ) (l n : List (List ℕ)) → Enumerated c B h d h' d' m r l → Enumerated c B h' d' h'' d'' r s n → Enumerated c B h d h'' d'' m s (l ++ n)
  enumerated_chain h d h' d' h'' d'' m r s l n p q =
      record {
        count = omega (arith, p.count, q.count, length-append l n);
        hash_before = λ i k. q.hash_before i (omega (arith, p.count)) ∙ p.hash_before i k;
        dist_before = λ i k. q.dist_before i (omega (arith, p.count)) ∙ p.dist_before i k;
        hash_written = λ i k. elim (lt_or_le i (length l)) [
          | inl x ↦ q.hash_before (m + i) (omega (arith, p.count)) ∙ p.hash_written i x ∙ ap (λ (z : List ℕ). hash_of z B) (sym (get_or-append l n [] i x))
          | inr x ↦
              let j = i - length l in
              let e : m + i ≡ r + j = omega (arith, p.count) in
              let g : i ≡ length l + j = omega arith in
              ap (λ (z : ℕ). get_or h'' z 0) e ∙ q.hash_written j (omega (arith, length-append l n)) ∙ ap (λ (z : List ℕ). hash_of z B) (sym (get_or-append-add l n j []) ∙ ap (λ (z : ℕ). get_or (l ++ n) z []) (sym g))
        ];
        dist_of = λ i k. elim (lt_or_le i (length l)) [
          | inl x ↦ q.dist_before (m + i) (omega (arith, p.count)) ∙ p.dist_of i x ∙ ap (squared_distance c) (sym (get_or-append l n [] i x))
          | inr x ↦
              let j = i - length l in
              let e : m + i ≡ r + j = omega (arith, p.count) in
              let g : i ≡ length l + j = omega arith in
              ap (λ (z : ℕ). get_or d'' z 0) e ∙ q.dist_of j (omega (arith, length-append l n)) ∙ ap (squared_distance c) (sym (get_or-append-add l n j []) ∙ ap (λ (z : ℕ). get_or (l ++ n) z []) (sym g))
        ];
        wide = q.wide;
        long = q.long;
      }

  -- One key is added.
  pub enumerated_one : (h d : List ℕ) (m u v : ℕ) (k : List ℕ) → m < 1024 → length h ≡ 1024 → length d ≡ 1024 → u ≡ hash_of k B → v ≡ squared_distance c k → Enumerated c B h d (set h m u) (set d m v) m (m + 1) (k ∷ [])
  enumerated_one h d m u v k w p q e f =
      record {
        count = refl;
        hash_before = λ i x. get_or-set_other h m i u 0 (λ y. omega arith);
        dist_before = λ i x. get_or-set_other d m i v 0 (λ y. omega arith);
        hash_written = λ i x. let z : i ≡ 0 = only i x in let g : m + i ≡ m = omega arith in ap (λ (y : ℕ). get_or (set h m u) y 0) g ∙ get_or-set_same h m u 0 (omega arith) ∙ e ∙ ap (λ (y : ℕ). hash_of (get_or (k ∷ []) y []) B) (sym z);
        dist_of = λ i x. let z : i ≡ 0 = only i x in let g : m + i ≡ m = omega arith in ap (λ (y : ℕ). get_or (set d m v) y 0) g ∙ get_or-set_same d m v 0 (omega arith) ∙ f ∙ ap (λ (y : ℕ). squared_distance c (get_or (k ∷ []) y [])) (sym z);
        wide = length-set h m u ∙ p;
        long = length-set d m v ∙ q;
      }
    where
      only : (i : ℕ) → i < 1 → i ≡ 0
      only i x = omega arith

  -- One value of a part is added, with all the keys that it leads to.
  pub loops_iteration : (g : List ℕ → List (List ℕ)) (j a i : ℕ) (k h d h' d' h'' d'' : List ℕ) (m r s : ℕ) → Enumerated c B h d h' d' m r (concat_map g (run j a i k)) → Enumerated c B h' d' h'' d'' r s (g (set k j (a + i)))
      → Enumerated c B h d h'' d'' m s (concat_map g (run j a (i + 1) k))
  loops_iteration g j a i k h d h' d' h'' d'' m r s p q =
      rw (run_more j a i k, concat_map_append g (run j a i k) (set k j (a + i) ∷ []), concat_map_one g (set k j (a + i))) (enumerated_chain h d h' d' h'' d'' m r s (concat_map g (run j a i k)) (g (set k j (a + i))) p q)

  -- The value v is added, with all the keys that it leads to, behind those of the values from a on.
  pub value_added : (g : List ℕ → List (List ℕ)) (j a v : ℕ) (k h d h' d' h'' d'' : List ℕ) (m r s : ℕ) → a ≤ v → Enumerated c B h d h' d' m r (concat_map g (run j a (v - a) k)) → Enumerated c B h' d' h'' d'' r s (g (set k j v))
      → Enumerated c B h d h'' d'' m s (concat_map g (run j a (v + 1 - a) k))
  value_added g j a v k h d h' d' h'' d'' m r s l p q =
      let back : v ≡ a + (v - a) = omega (arith, l) in
      let next : v + 1 - a ≡ v - a + 1 = omega (arith, l) in
      rw next (loops_iteration g j a (v - a) k h d h' d' h'' d'' m r s p (subst (λ (x : ℕ). Enumerated c B h' d' h'' d'' r s (g (set k j x))) back q))

-- ---- room
run_part : (g : List ℕ → List (List ℕ)) (j a i t : ℕ) (k : List ℕ) → length (concat_map g (run j a i k)) ≤ length (concat_map g (run j a (i + t) k))
run_part g j a i zero k = let e : i ≡ i + 0 = omega arith in omega (arith, ap (λ (z : ℕ). length (concat_map g (run j a z k))) e)
run_part g j a i (suc t) k =
    let e : i + suc t ≡ i + t + 1 = omega arith in
    omega (
      arith,
      ap (λ (z : ℕ). length (concat_map g (run j a z k))) e,
      ap (λ (z : List (List ℕ)). length (concat_map g z)) (run_more j a (i + t) k),
      ap length (concat_map_append g (run j a (i + t) k) (set k j (a + (i + t)) ∷ [])),
      length-append (concat_map g (run j a (i + t) k)) (concat_map g (set k j (a + (i + t)) ∷ [])),
      run_part g j a i t k,
    )

pub loops_room : (g : List ℕ → List (List ℕ)) (j a i n : ℕ) (k : List ℕ) (m at : ℕ) → i < n → at ≡ m + length (concat_map g (run j a i k)) → m + length (concat_map g (run j a n k)) ≤ 1024 → at + length (g (set k j (a + i))) ≤ 1024
loops_room g j a i n k m at h e r =
    let w : n ≡ i + 1 + (n - (i + 1)) = omega arith in
    omega (
      arith,
      ap (λ (z : ℕ). length (concat_map g (run j a z k))) w,
      run_part g j a (i + 1) (n - (i + 1)) k,
      ap (λ (z : List (List ℕ)). length (concat_map g z)) (run_more j a i k),
      ap length (concat_map_append g (run j a i k) (set k j (a + i) ∷ [])),
      length-append (concat_map g (run j a i k)) (concat_map g (set k j (a + i) ∷ [])),
      ap length (concat_map_one g (set k j (a + i))),
    )

-- ---- parts
pub parts_set : (k : List ℕ) (B j v : ℕ) → v ≤ B → Parts k B → Parts (set k j v) B
parts_set k B j v h p =
    record {
      few = p.few;
      first = at 0 p.first;
      second = at 1 p.second;
      third = at 2 p.third;
      fourth = at 3 p.fourth;
      fifth = at 4 p.fifth;
    }
  where
    at : (i : ℕ) → get_or k i 0 ≤ B → get_or (set k j v) i 0 ≤ B
    at i q = go i j k q
      where
        go : (i j : ℕ) (k : List ℕ) → get_or k i 0 ≤ B → get_or (set k j v) i 0 ≤ B
        go i j [] q = q
        go zero zero (x ∷ k) q = h
        go zero (suc j) (x ∷ k) q = q
        go (suc i) zero (x ∷ k) q = q
        go (suc i) (suc j) (x ∷ k) q = go i j k q

pub zeros : (hi : List ℕ) (B : ℕ) → Parts hi B → Parts (0 ∷ 0 ∷ 0 ∷ 0 ∷ 0 ∷ []) B
zeros hi B p = record { few = p.few; first = omega arith; second = omega arith; third = omega arith; fourth = omega arith; fifth = omega arith }

pub part_at : (k : List ℕ) (B j : ℕ) → Parts k B → j < 5 → get_or k j 0 ≤ B
part_at k B zero p h = p.first
part_at k B (suc zero) p h = p.second
part_at k B (suc (suc zero)) p h = p.third
part_at k B (suc (suc (suc zero))) p h = p.fourth
part_at k B (suc (suc (suc (suc zero)))) p h = p.fifth
part_at k B (suc (suc (suc (suc (suc j))))) p h = absurd (omega arith)

-- ---- the values of a part
-- The values of a part from a to b, and the loops below it.
pub with_last_is : (n : ℕ) (lo hi k : List ℕ) (a i : ℕ) → a ≡ max (get_or lo (4 - n) 0) (get_or k (4 - n - 1) 0) → i ≡ suc (get_or hi (4 - n) 0) - a
    → concat_map (with_last n lo hi) (run (4 - n) a i k) ≡ with_last (suc n) lo hi k
unfolding with_last
with_last_is n lo hi k a i p q = ap (concat_map (with_last n lo hi)) (part_values_run (4 - n - 1) (4 - n) (get_or lo (4 - n) 0) (get_or hi (4 - n) 0) a i k p q)

-- The same in the terms of the code: part j is the first of the last n, and the loop has gone over i values from a on.
pub loop_is : (n : ℕ) (lo hi k : List ℕ) (j a i : ℕ) → 0 < n → j ≡ 5 - n → a ≡ max (get_or lo j 0) (get_or k (j - 1) 0) → i ≡ suc (get_or hi j 0) - a
    → concat_map (with_last (n - 1) lo hi) (run j a i k) ≡ with_last n lo hi k
loop_is zero lo hi k j a i h e p q = absurd (omega arith)
loop_is (suc n) lo hi k j a i h e p q =
    let f : j ≡ 4 - n = omega arith in
    let g : suc n - 1 ≡ n = omega arith in
    rw (f, g) (with_last_is n lo hi k a i (rw f at p) (rw f at q))

-- There is room for the keys of one more value, where there is room for those of all.
pub value_room : (n : ℕ) (lo hi k : List ℕ) (a v m at : ℕ) → 0 < n → a ≡ max (get_or lo (5 - n) 0) (get_or k (5 - n - 1) 0) → v < suc (get_or hi (5 - n) 0) → a ≤ v
    → at ≡ m + length (concat_map (with_last (n - 1) lo hi) (run (5 - n) a (v - a) k)) → m + length (with_last n lo hi k) ≤ 1024
    → at + length (with_last (n - 1) lo hi (set k (5 - n) v)) ≤ 1024
value_room n lo hi k a v m at h from below above e r =
    let most = suc (get_or hi (5 - n) 0) - a in
    let whole = loop_is n lo hi k (5 - n) a most h refl from refl in
    let fits : m + length (concat_map (with_last (n - 1) lo hi) (run (5 - n) a most k)) ≤ 1024 = rw whole r in
    let room = loops_room (with_last (n - 1) lo hi) (5 - n) a (v - a) most k m at (omega arith) e fits in
    let back : a + (v - a) ≡ v = omega arith in
    rw back at room

-- ---- the last part of a key
-- A key's hash is that of the key without its last part, and bins^4 for each of the last part's values.
pub hash_last : (k : List ℕ) (B v : ℕ) → length k ≡ 5 → hash_of (set k 4 v) B ≡ hash_of (set k 4 0) B + v * (B * B * (B * B))
unfolding hash_of
hash_last [] B v h = absurd (omega arith)
hash_last (a ∷ []) B v h = absurd (omega arith)
hash_last (a ∷ b ∷ []) B v h = absurd (omega arith)
hash_last (a ∷ b ∷ c ∷ []) B v h = absurd (omega arith)
hash_last (a ∷ b ∷ c ∷ d ∷ []) B v h = absurd (omega arith)
hash_last (a ∷ b ∷ c ∷ d ∷ e ∷ k) B v h = rw (powers B).four (omega arith)

-- A key's squared distance is that of the key whose last part is the image key's, and the square of the last part's difference.
pub distance_last : (c k : List ℕ) (u v : ℕ) → length k ≡ 5 → squared_distance c (set k 4 v) ≡ squared_distance c (set (set k 4 u) 4 (get_or c 4 0)) + squared_difference (get_or c 4 0) v
unfolding squared_distance squared_difference
distance_last c [] u v h = absurd (omega arith)
distance_last c (a ∷ []) u v h = absurd (omega arith)
distance_last c (a ∷ b ∷ []) u v h = absurd (omega arith)
distance_last c (a ∷ b ∷ d ∷ []) u v h = absurd (omega arith)
distance_last c (a ∷ b ∷ d ∷ e ∷ []) u v h = absurd (omega arith)
distance_last c (a ∷ b ∷ d ∷ e ∷ f ∷ k) u v h = rw (sub_self (get_or c 4 0)) (omega arith)

-- ---- the square of a difference
pub product_below : (d : ℕ) → d ≤ 4096 → d * d ≤ 16777216
product_below d h = let m = mul-le-mul h h in omega arith

-- ---- the enumeration lists the keys in the ranges
concat_map_concat_map : (g f : List ℕ → List (List ℕ)) (ks : List (List ℕ)) → concat_map g (concat_map f ks) ≡ concat_map (λ (k : List ℕ). concat_map g (f k)) ks
unfolding concat_map
concat_map_concat_map g f [] = refl
concat_map_concat_map g f (k ∷ ks) = concat_map_append g (f k) (concat_map f ks) ∙ ap (λ (z : List (List ℕ)). concat_map g (f k) ++ z) (concat_map_concat_map g f ks)

-- A loop that adds the key alone adds nothing else.
concat_map_same : (ks : List (List ℕ)) → concat_map (λ (k : List ℕ). k ∷ []) ks ≡ ks
unfolding concat_map
concat_map_same [] = refl
concat_map_same (k ∷ ks) = ap (λ (l : List (List ℕ)). k ∷ l) (concat_map_same ks)

pub loops_is : (lo hi : List ℕ) → with_last 5 lo hi (0 ∷ 0 ∷ 0 ∷ 0 ∷ 0 ∷ []) ≡ in_range lo hi
unfolding with_last in_range
loops_is lo hi =
    let s0 = part_values 0 0 (get_or lo 0 0) (get_or hi 0 0) in
    let s1 = part_values 0 1 (get_or lo 1 0) (get_or hi 1 0) in
    let s2 = part_values 1 2 (get_or lo 2 0) (get_or hi 2 0) in
    let s3 = part_values 2 3 (get_or lo 3 0) (get_or hi 3 0) in
    let s4 = part_values 3 4 (get_or lo 4 0) (get_or hi 4 0) in
    let l0 = concat_map s0 start in
    let l1 = concat_map s1 l0 in
    let l2 = concat_map s2 l1 in
    let l3 = concat_map s3 l2 in
    sym (concat_map_one (with_last 5 lo hi) (0 ∷ 0 ∷ 0 ∷ 0 ∷ 0 ∷ []))
    ∙ sym (concat_map_concat_map (with_last 4 lo hi) s0 start)
    ∙ sym (concat_map_concat_map (with_last 3 lo hi) s1 l0)
    ∙ sym (concat_map_concat_map (with_last 2 lo hi) s2 l1)
    ∙ sym (concat_map_concat_map (with_last 1 lo hi) s3 l2)
    ∙ sym (concat_map_concat_map (with_last 0 lo hi) s4 l3)
    ∙ concat_map_same (concat_map s4 l3)

-- ---- the sorted hashes
module _ (c lo hi : List ℕ) (B : ℕ) (w : Narrow lo hi) (l : Listed lo hi c) (h d hashes dist : List ℕ) (n : ℕ) (p : Enumerated c B h d hashes dist 0 n (with_last 5 lo hi (0 ∷ 0 ∷ 0 ∷ 0 ∷ 0 ∷ []))) where
  q : Enumerated c B h d hashes dist 0 n (in_range lo hi)
  q = subst (λ (y : List (List ℕ)). Enumerated c B h d hashes dist 0 n y) (loops_is lo hi) p

  pub loops_count : n ≡ length (in_range lo hi)
  loops_count = omega (arith, q.count)

  pub loops_few : n ≤ 1024
  loops_few = omega (arith, loops_count, in_range_length lo hi w)

  plus : (i : ℕ) → 0 + i ≡ i
  plus i = omega arith

  hash_at : (i : ℕ) → i < n → get_or hashes i 0 ≡ hash_of (get_or (in_range lo hi) i []) B
  hash_at i k = ap (λ (z : ℕ). get_or hashes z 0) (sym (plus i)) ∙ q.hash_written i (omega (arith, loops_count))

  dist_at : (i : ℕ) → i < n → get_or dist i 0 ≡ squared_distance c (get_or (in_range lo hi) i [])
  dist_at i k = ap (λ (z : ℕ). get_or dist z 0) (sym (plus i)) ∙ q.dist_of i (omega (arith, loops_count))

  pub loops_near : Near dist n
  loops_near = measured_near c lo hi dist n w l (omega (arith, loops_count)) dist_at

  hashes_of : by_distance hashes dist n 46 ≡ map (λ (k : List ℕ). hash_of k B) (keys_of c lo hi)
  hashes_of = by_distance_keys (λ (k : List ℕ). hash_of k B) c lo hi hashes dist n w l loops_count hash_at dist_at

  pub loops_hashed : (out : List ℕ) (r : ℕ) → Holds out r (by_distance hashes dist n 46) → Hashed out r (keys_of c lo hi) B
  loops_hashed out r s =
      let e : r ≡ length (keys_of c lo hi) = s.count ∙ ap length hashes_of ∙ length-map (keys_of c lo hi) (λ (k : List ℕ). hash_of k B) in
      record {
        count = e;
        each = λ i k.
            sym (get_or-take r out i 0 k)
            ∙ ap (λ (y : List ℕ). get_or y i 0) (s.front ∙ hashes_of)
            ∙ map_at (keys_of c lo hi) i (omega arith);
        long = s.long;
      }
    where
      map_at : (ks : List (List ℕ)) (i : ℕ) → i < length ks → get_or (map (λ (k : List ℕ). hash_of k B) ks) i 0 ≡ hash_of (get_or ks i []) B
      map_at [] i g = absurd (omega arith)
      map_at (x ∷ ks) zero g = refl
      map_at (x ∷ ks) (suc i) g = map_at ks i (omega arith)
