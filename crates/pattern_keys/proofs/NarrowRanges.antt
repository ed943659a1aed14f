-- The keys in narrow ranges are near to one another: their squared distances are below 46, so larger distances need not be considered.
-- Assumes nothing.
use mathlib.Core.Path.{◌≡◌, refl, sym, ap, ◌∙◌, subst}
use Prim.Native.Nat.{ℕ, zero, suc, ◌+◌, ◌-◌, ◌≤◌, ◌<◌}
use native.Mathlib.Omega.{arith}
use native.Mathlib.Nat.{mul-le-mul}
use mathlib.Core.List.{List, [], ◌∷◌, ◌++◌, map, append-nil}
use lib.ListN.{length, get_or}
use lib.Seq.{take_all}
use Rattle.pattern_keys.specs.Keys.{concat_map, in_range, squared_difference, squared_distance, at_distance, nearest_first, farthest, keys_of}
use Rattle.pattern_keys.specs.DistanceSort.{by_distance}
use Rattle.pattern_keys.specs.Listed.{Has, here, there, Listed}
use Rattle.pattern_keys.specs.DistanceSortSteps.{Narrow, Near}
use Rattle.pattern_keys.proofs.Lists.{at_no, nearest_first_more, by_distance_is}
use Rattle.pattern_keys.proofs.KeyCount.{squared_distance_within}
use Rattle.pattern_keys.proofs.KeysExact.{in_range_from}

-- ---- distances
nine : (x y lo hi : ℕ) → (lo ≤ x) × (x ≤ hi) → (lo ≤ y) × (y ≤ hi) → hi ≤ lo + 3 → squared_difference x y ≤ 9
unfolding squared_difference
nine x y lo hi p q h = let a : x - y + (y - x) ≤ 3 = omega arith in let m = mul-le-mul a a in omega arith

pub squared_distance_near : (lo hi c k : List ℕ) → Narrow lo hi → Listed lo hi c → Listed lo hi k → squared_distance c k < 46
unfolding squared_distance
squared_distance_near lo hi c k w l m =
    rw (l.is, m.is)
    (omega (
      arith,
      nine l.p m.p (get_or lo 0 0) (get_or hi 0 0) l.first m.first w.first,
      nine l.q m.q (get_or lo 1 0) (get_or hi 1 0) l.second m.second w.second,
      nine l.r m.r (get_or lo 2 0) (get_or hi 2 0) l.third m.third w.third,
      nine l.s m.s (get_or lo 3 0) (get_or hi 3 0) l.fourth m.fourth w.fourth,
      nine l.t m.t (get_or lo 4 0) (get_or hi 4 0) l.fifth m.fifth w.fifth,
    ))

pub has_at : (l : List (List ℕ)) (i : ℕ) → i < length l → Has (get_or l i []) l
has_at [] i h = absurd (omega arith)
has_at (x ∷ l) zero h = here l
has_at (x ∷ l) (suc i) h = there x (has_at l i (omega arith))

pub measured_near : (c lo hi dist : List ℕ) (n : ℕ) → Narrow lo hi → Listed lo hi c → n ≤ length (in_range lo hi) → ((i : ℕ) → i < n → get_or dist i 0 ≡ squared_distance c (get_or (in_range lo hi) i [])) → Near dist n
measured_near c lo hi dist n w l h m =
    record {
      each = λ i k.
          let f = squared_distance_near lo hi c (get_or (in_range lo hi) i []) w l (in_range_from lo hi (has_at (in_range lo hi) i (omega arith))) in
          omega (arith, m i k);
    }

-- ---- distances past the farthest key add none
none_at : (c : List ℕ) (d : ℕ) (ks : List (List ℕ)) → ((k : List ℕ) → Has k ks → squared_distance c k < d) → concat_map (at_distance c d) ks ≡ []
unfolding concat_map
none_at c d [] h = refl
none_at c d (k ∷ ks) h =
    let f = h k (here ks) in
    ap (λ (z : List (List ℕ)). z ++ concat_map (at_distance c d) ks) (at_no c k d (λ e. omega arith)) ∙ none_at c d ks (λ x g. h x (there k g))

nearest_first_enough : (c : List ℕ) (ks : List (List ℕ)) (m n : ℕ) → ((k : List ℕ) → Has k ks → squared_distance c k < m) → nearest_first c ks (m + n) ≡ nearest_first c ks m
nearest_first_enough c ks m zero h = let e : m + 0 ≡ m = omega arith in ap (nearest_first c ks) e
nearest_first_enough c ks m (suc n) h =
    let e : m + suc n ≡ m + n + 1 = omega arith in
    ap (nearest_first c ks) e
    ∙ nearest_first_more c ks (m + n)
    ∙ ap (λ (z : List (List ℕ)). nearest_first c ks (m + n) ++ z) (none_at c (m + n) ks (λ k g. let f = h k g in omega arith))
    ∙ append-nil (nearest_first c ks (m + n))
    ∙ nearest_first_enough c ks m n h

within : (c lo hi k : List ℕ) → Listed lo hi k → squared_distance c k ≤ farthest c lo hi
within c lo hi k m = subst (λ (y : List ℕ). squared_distance c y ≤ farthest c lo hi) (sym m.is) (squared_distance_within c lo hi m.p m.q m.r m.s m.t m.first m.second m.third m.fourth m.fifth)

pub keys_near : (c lo hi : List ℕ) → Narrow lo hi → Listed lo hi c → nearest_first c (in_range lo hi) 46 ≡ keys_of c lo hi
unfolding keys_of
keys_near c lo hi w l =
    let ks = in_range lo hi in
    let m = suc (farthest c lo hi) in
    let e : 46 + m ≡ m + 46 = omega arith in
    sym (nearest_first_enough c ks 46 m (λ k g. squared_distance_near lo hi c k w l (in_range_from lo hi g)))
    ∙ ap (nearest_first c ks) e
    ∙ nearest_first_enough c ks m 46 (λ k g. let f = within c lo hi k (in_range_from lo hi g) in omega arith)

-- Where a has f of each key in the ranges, and dist its distance from c, the values by distance are f of each key of the list.
pub by_distance_keys : (f : List ℕ → ℕ) (c lo hi a dist : List ℕ) (n : ℕ) → Narrow lo hi → Listed lo hi c → n ≡ length (in_range lo hi) → ((i : ℕ) → i < n → get_or a i 0 ≡ f (get_or (in_range lo hi) i []))
    → ((i : ℕ) → i < n → get_or dist i 0 ≡ squared_distance c (get_or (in_range lo hi) i [])) → by_distance a dist n 46 ≡ map f (keys_of c lo hi)
by_distance_keys f c lo hi a dist n w l e p q =
    by_distance_is f c (in_range lo hi) a dist n 46 (omega arith) p q ∙ ap (λ (z : List (List ℕ)). map f (nearest_first c z 46)) (take_all n (in_range lo hi) (omega arith)) ∙ ap (map f) (keys_near c lo hi w l)
