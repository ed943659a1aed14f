-- Question 3: the loops over the brightness list, with and without marks for the indices met, and what holds of a list that passes. Assumes nothing.
use mathlib.Core.Path.{◌≡◌, refl, sym, ◌∙◌, ap}
use Prim.Native.Nat.{ℕ, zero, suc, ◌+◌, ◌-◌, ◌/◌, ◌%◌, ◌≤◌, ◌<◌}
use native.Mathlib.Omega.{arith}
use native.Mathlib.Numerals.{add-one}
use native.Mathlib.Nat.{div-add-mod'}
use native.Mathlib.Decide.{dec_le}
use mathlib.Core.Bool.{Bool, true, false, not, ◌&&◌, ◌||◌, cond}
use mathlib.Core.List.{List, [], ◌∷◌}
use mathlib.Core.Logic.{◌⊎◌, inl, inr}
use borrow.Author.Tests.{eq-eqb, ne_eqb, eqb-true, eqb-false, lt-ltb, ltb-true, leb-true, not-true}
use lib.Dec.{ltb, leb, eqb}
use lib.ListN.{length, get_or, take, drop, set, length-drop, replicate, length-set, length-replicate, get_or-replicate, drop_of_length-le}
use lib.Seq.{drop-cons, take-length, get_or-set_same, get_or-set_other}
use Rattle.std.specs.List.{list_all, list_any}
use Rattle.preprocess.specs.Questions.{centroids_fit}
use Rattle.preprocess.specs.BrightnessList.{order_fits, all_below, among, none_twice}
use Rattle.preprocess.specs.BrightnessList.{centroid_of}
use Rattle.preprocess.proofs.Coordinates.{both_l, both_r}
use Rattle.preprocess.specs.BrightnessListClaims.{PlacesHaveCentroids, PlacesAtMost256}

-- ---- The definitions, as std's words for what `all` and `contains` return.
pub all_below_is : (n : ℕ) (xs : List ℕ) → list_all (λ x. ltb x n) xs ≡ all_below n xs
unfolding all_below
all_below_is n [] = refl
all_below_is n (x ∷ xs) = rw (all_below_is n xs)

among_is : (x : ℕ) (xs : List ℕ) → list_any (λ y. eqb y x) xs ≡ among x xs
unfolding among
among_is x [] = refl
among_is x (y ∷ ys) = rw (among_is x ys)

-- The same of the part of a list from an index on, as a slice of it reads.
pub among_rest : (x k : ℕ) (xs : List ℕ) → list_any (λ y. eqb y x) (take (length xs - k) (drop k xs)) ≡ among x (drop k xs)
among_rest x k xs = rw (← length-drop k xs, take-length) (among_is x (drop k xs))

-- ---- The definitions, applied to the part of a list from an index on.
module _ (s : List ℕ) (i : ℕ) where
  below_step : (n : ℕ) → i < length s → all_below n (drop i s) ≡ (ltb (get_or s i 0) n && all_below n (drop (i + 1) s))
  unfolding all_below
  below_step n h = rw (add-one, drop-cons s i 0 h)

  pub twice_step : i < length s → none_twice (drop i s) ≡ (not (among (get_or s i 0) (drop (i + 1) s)) && none_twice (drop (i + 1) s))
  unfolding none_twice
  twice_step h = rw (add-one, drop-cons s i 0 h)

  pub twice_end : length s ≤ i → none_twice (drop i s) ≡ true
  unfolding none_twice
  twice_end h = rw (drop_of_length-le s h)

-- ---- Whether no index stands twice, told from the indices met before.
-- Whether no element is among those before it. Those in front of the list are given in any order.
pub new_ones : List ℕ → List ℕ → Bool
new_ones before [] = true
new_ones before (x ∷ xs) = not (among x before) && new_ones (x ∷ before) xs

-- Whether none of the elements is among the given ones.
apart : List ℕ → List ℕ → Bool
apart before [] = true
apart before (x ∷ xs) = not (among x before) && apart before xs

eqb_swapped : (x y : ℕ) → eqb x y ≡ eqb y x
eqb_swapped x y = by (eqb x y) refl
  where
    by : (b : Bool) → eqb x y ≡ b → b ≡ eqb y x
    by true e = sym (eq-eqb y x (sym (eqb-true x y e)))
    by false e = sym (ne_eqb y x (λ z. eqb-false x y e (sym z)))

mix : (p q r d : Bool) → (not (p || q) && (not r && d)) ≡ (not (p || r) && (not q && d))
mix true q r d = refl
mix false true true d = refl
mix false true false d = refl
mix false false true d = refl
mix false false false d = refl

apart_cons : (y : ℕ) (before xs : List ℕ) → apart (y ∷ before) xs ≡ (not (among y xs) && apart before xs)
unfolding apart among
apart_cons y before [] = refl
apart_cons y before (x ∷ xs) =
    rw (apart_cons y before xs, eqb_swapped y x) (mix (eqb x y) (among x before) (among y xs) (apart before xs))

new_is : (before xs : List ℕ) → new_ones before xs ≡ (apart before xs && none_twice xs)
unfolding new_ones apart none_twice
new_is before [] = refl
new_is before (x ∷ xs) =
    rw (new_is (x ∷ before) xs, apart_cons x before xs) (regroup (not (among x before)) (not (among x xs)) (apart before xs) (none_twice xs))
  where
    regroup : (a b c d : Bool) → (a && ((b && c) && d)) ≡ ((a && c) && (b && d))
    regroup true true c d = refl
    regroup true false true d = refl
    regroup true false false d = refl
    regroup false b c d = refl

apart_none : (xs : List ℕ) → apart [] xs ≡ true
unfolding apart among
apart_none [] = refl
apart_none (x ∷ xs) = apart_none xs

-- The marks say which numbers below 256 are among those met before.
pub record Marks (seen : List Bool) (before : List ℕ) : Type 0 where
  pub long : length seen ≡ 256
  pub says : (x : ℕ) → x < 256 → get_or seen x false ≡ among x before

same_or_not : (x y : ℕ) → (x ≡ y) ⊎ (x ≡ y → ⊥)
same_or_not x y = by_test (eqb x y) refl
  where
    by_test : (b : Bool) → eqb x y ≡ b → (x ≡ y) ⊎ (x ≡ y → ⊥)
    by_test true e = inl (eqb-true x y e)
    by_test false e = inr (eqb-false x y e)

no_marks : Marks (replicate 256 false) []
unfolding among
no_marks = record { long = length-replicate 256 false; says = λ x h. get_or-replicate 256 x false false h }

marked : (seen : List Bool) (before : List ℕ) (y : ℕ) → y < 256 → Marks seen before → Marks (set seen y true) (y ∷ before)
unfolding among
marked seen before y small m = record { long = length-set seen y true ∙ m.long; says = λ x h. at x h (same_or_not x y) }
  where
    at : (x : ℕ) → x < 256 → (x ≡ y) ⊎ (x ≡ y → ⊥) → get_or (set seen y true) x false ≡ (eqb y x || among x before)
    at x h (inl e) = rw (eq-eqb y x (sym e), e) (get_or-set_same seen y true false (omega (arith, m.long)))
    at x h (inr d) = rw (ne_eqb y x (λ z. d (sym z))) (get_or-set_other seen y x true false d ∙ m.says x h)

-- ---- The invariant of the loop with marks: the question for the whole list is the question for the rest, by the marks of what was met.
pub record Left (s : List ℕ) (seen : List Bool) (i : ℕ) : Type 0 where
  pub short : i ≤ length s
  pub before : List ℕ
  pub marks : Marks seen before
  pub same : none_twice s ≡ new_ones before (drop i s)
  pub small : all_below 256 (drop i s) ≡ true

pub left_start : (s : List ℕ) → all_below 256 s ≡ true → Left s (replicate 256 false) 0
left_start s h = record { short = omega arith; before = []; marks = no_marks; same = sym (new_is [] s ∙ (rw (apart_none s))); small = h }

module _ (s : List ℕ) (seen : List Bool) (i : ℕ) (l : Left s seen i) (h : i < length s) where
  pub element_small : get_or s i 0 < 256
  element_small = ltb-true (get_or s i 0) 256 (both_l (ltb (get_or s i 0) 256) (all_below 256 (drop (i + 1) s)) (sym (below_step s i 256 h) ∙ l.small))

  new_step : new_ones l.before (drop i s) ≡ (not (among (get_or s i 0) l.before) && new_ones (get_or s i 0 ∷ l.before) (drop (i + 1) s))
  unfolding new_ones
  new_step = rw (add-one, drop-cons s i 0 h)

  pub met_twice : get_or seen (get_or s i 0) false ≡ true → none_twice s ≡ false
  met_twice t = l.same ∙ new_step ∙ (rw (sym (l.marks.says (get_or s i 0) element_small) ∙ t))

  pub left_on : get_or seen (get_or s i 0) false ≡ false → Left s (set seen (get_or s i 0) true) (i + 1)
  left_on t =
      record {
        short = omega arith;
        before = get_or s i 0 ∷ l.before;
        marks = marked seen l.before (get_or s i 0) element_small l.marks;
        same = l.same ∙ new_step ∙ (rw (sym (l.marks.says (get_or s i 0) element_small) ∙ t));
        small = both_r (ltb (get_or s i 0) 256) (all_below 256 (drop (i + 1) s)) (sym (below_step s i 256 h) ∙ l.small);
      }

pub left_end : (s : List ℕ) (seen : List Bool) (i : ℕ) → Left s seen i → length s ≤ i → none_twice s ≡ true
unfolding new_ones
left_end s seen i l h = l.same ∙ (rw (drop_of_length-le s h))

-- Numbers below a bound are below a larger bound.
pub below_wider : (n m : ℕ) (xs : List ℕ) → n ≤ m → all_below n xs ≡ true → all_below m xs ≡ true
unfolding all_below
below_wider n m [] h t = refl
below_wider n m (x ∷ xs) h t =
    let k = ltb-true x n (both_l (ltb x n) (all_below n xs) t) in
    rw (lt-ltb x m (omega arith)) (below_wider n m xs h (both_r (ltb x n) (all_below n xs) t))

-- ---- What holds of a list that passes question 3.
pub below_at : (n : ℕ) (xs : List ℕ) (k : ℕ) → all_below n xs ≡ true → k < length xs → get_or xs k 0 < n
unfolding all_below
below_at n [] k t h = absurd (omega arith)
below_at n (x ∷ xs) zero t h = ltb-true x n (both_l (ltb x n) (all_below n xs) t)
below_at n (x ∷ xs) (suc k) t h = below_at n xs k (both_r (ltb x n) (all_below n xs) t) (omega arith)

pub places_have_centroids : PlacesHaveCentroids
unfolding order_fits centroid_of
places_have_centroids order c p t h =
    let b = below_at (length c / 2) order p.0 (both_l (all_below (length c / 2) order) (none_twice order) t) h in
    omega (arith, div-add-mod' (length c) 2)

-- The list without its elements equal to n.
without : ℕ → List ℕ → List ℕ
without n [] = []
without n (x ∷ xs) = cond (eqb x n) (without n xs) (x ∷ without n xs)

-- A number below n + 1 that isn't n is below n.
less : (x n : ℕ) → (x ≡ n → ⊥) → x < suc n → x < n
less x n d h = by (dec_le n x)
  where
    by : Dec (n ≤ x) → x < n
    by (yes p) = absurd (d (omega arith))
    by (no p) = omega arith

without_below : (n : ℕ) (xs : List ℕ) → all_below (suc n) xs ≡ true → all_below n (without n xs) ≡ true
unfolding without all_below
without_below n [] t = refl
without_below n (x ∷ xs) t =
    by (eqb x n) refl (ltb-true x (suc n) (both_l (ltb x (suc n)) (all_below (suc n) xs) t)) (without_below n xs (both_r (ltb x (suc n)) (all_below (suc n) xs) t))
  where
    by : (b : Bool) → eqb x n ≡ b → x < suc n → all_below n (without n xs) ≡ true → all_below n (cond b (without n xs) (x ∷ without n xs)) ≡ true
    by true e h ih = ih
    by false e h ih = rw (lt-ltb x n (less x n (eqb-false x n e) h)) ih

without_among : (n x : ℕ) (xs : List ℕ) → among x xs ≡ false → among x (without n xs) ≡ false
unfolding without among
without_among n x [] t = refl
without_among n x (y ∷ ys) t = by (eqb y n) (eqb y x) refl t (λ u. without_among n x ys u)
  where
    by : (b p : Bool) → eqb y x ≡ p → (p || among x ys) ≡ false → (among x ys ≡ false → among x (without n ys) ≡ false) → among x (cond b (without n ys) (y ∷ without n ys)) ≡ false
    by b true e u ih = absurd (let z : ◌≡◌ {A = ℕ} 0 1 = cc in omega arith)
    by true false e u ih = ih u
    by false false e u ih = rw e (ih u)

without_twice : (n : ℕ) (xs : List ℕ) → none_twice xs ≡ true → none_twice (without n xs) ≡ true
unfolding without none_twice
without_twice n [] t = refl
without_twice n (x ∷ xs) t = by (eqb x n) (without_twice n xs (both_r (not (among x xs)) (none_twice xs) t)) (without_among n x xs (not-true (among x xs) (both_l (not (among x xs)) (none_twice xs) t)))
  where
    by : (b : Bool) → none_twice (without n xs) ≡ true → among x (without n xs) ≡ false → none_twice (cond b (without n xs) (x ∷ without n xs)) ≡ true
    by true ih a = ih
    by false ih a = rw a ih

without_none : (n : ℕ) (xs : List ℕ) → among n xs ≡ false → length (without n xs) ≡ length xs
unfolding without among
without_none n [] t = refl
without_none n (x ∷ xs) t = by (eqb x n) t (λ u. without_none n xs u)
  where
    by : (b : Bool) → (b || among n xs) ≡ false → (among n xs ≡ false → length (without n xs) ≡ length xs) → length (cond b (without n xs) (x ∷ without n xs)) ≡ suc (length xs)
    by true u ih = absurd (let z : ◌≡◌ {A = ℕ} 0 1 = cc in omega arith)
    by false u ih = ap suc (ih u)

without_length : (n : ℕ) (xs : List ℕ) → none_twice xs ≡ true → length xs ≤ suc (length (without n xs))
unfolding without none_twice
without_length n [] t = omega arith
without_length n (x ∷ xs) t = by (eqb x n) refl (without_length n xs (both_r (not (among x xs)) (none_twice xs) t)) (not-true (among x xs) (both_l (not (among x xs)) (none_twice xs) t))
  where
    by : (b : Bool) → eqb x n ≡ b → length xs ≤ suc (length (without n xs)) → among x xs ≡ false → suc (length xs) ≤ suc (length (cond b (without n xs) (x ∷ without n xs)))
    by true e ih a = omega (arith, without_none n xs (rw (eqb-true x n e) at a))
    by false e ih a = omega arith

-- There are at most n different numbers below n.
pub different_at_most : (n : ℕ) (xs : List ℕ) → all_below n xs ≡ true → none_twice xs ≡ true → length xs ≤ n
unfolding all_below
different_at_most zero [] t u = omega arith
different_at_most zero (x ∷ xs) t u = absurd (let h = ltb-true x 0 (both_l (ltb x 0) (all_below 0 xs) t) in omega arith)
different_at_most (suc n) xs t u =
    omega (arith, without_length n xs u, different_at_most n (without n xs) (without_below n xs t) (without_twice n xs u))

pub places_at_most_256 : PlacesAtMost256
unfolding centroids_fit order_fits
places_at_most_256 order c t u =
    let h = different_at_most (length c / 2) order (both_l (all_below (length c / 2) order) (none_twice order) u) (both_r (all_below (length c / 2) order) (none_twice order) u) in
    let k = leb-true (length c) 512 (both_r (eqb (length c % 2) 0) (leb (length c) 512) t) in
    omega (arith, div-add-mod' (length c) 2)
