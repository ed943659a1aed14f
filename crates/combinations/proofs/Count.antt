-- There are n choose 4 combinations below n. This is shown by changing the order of sums over ranges, and no list is computed. Assumes nothing.
use mathlib.Core.Path.{◌≡◌, refl, sym, ◌∙◌, ap, ap₂}
use Prim.Native.Nat.{ℕ, zero, suc, ◌+◌, ◌-◌, ◌*◌, ◌≤◌, ◌<◌}
use native.Mathlib.Omega.{arith}
use native.Mathlib.Nat.{sub-zero}
use native.Mathlib.Decide.{dec_le}
use mathlib.Core.List.{List, [], ◌∷◌}
use mathlib.Core.Bool.{cond}
use borrow.Author.Tests.{eq-eqb, ne_eqb}
use lib.Dec.{eqb}
use lib.ListN.{length, length-append}
use Rattle.combinations.specs.Lists.{each, span, upto}
use Rattle.combinations.specs.Combinations.{Combination, combinations_of_sum, combination_list, choose}
use Rattle.combinations.specs.Claims.{CombinationsCount, Combinations64}

-- The sum of g over the m numbers from lo on.
total : ℕ → ℕ → (ℕ → ℕ) → ℕ
total lo zero g = 0
total lo (suc m) g = g lo + total (suc lo) m g

length_span : {A : Type 0} (m lo : ℕ) (f : ℕ → List A) → length (each (span lo m) f) ≡ total lo m (λ x. length (f x))
unfolding each span total
length_span zero lo f = refl
length_span (suc m) lo f = length-append (f lo) (each (span (suc lo) m) f) ∙ ap (length (f lo) +◌) (length_span m (suc lo) f)

total-≡ : (m lo : ℕ) (g h : ℕ → ℕ) → ((x : ℕ) → g x ≡ h x) → total lo m g ≡ total lo m h
unfolding total
total-≡ zero lo g h e = refl
total-≡ (suc m) lo g h e = ap₂ ◌+◌ (e lo) (total-≡ m (suc lo) g h e)

total_zero : (m lo : ℕ) → total lo m (λ x. 0) ≡ 0
unfolding total
total_zero zero lo = refl
total_zero (suc m) lo = omega (arith, total_zero m (suc lo))

total_add : (m lo : ℕ) (g h : ℕ → ℕ) → total lo m (λ x. g x + h x) ≡ total lo m g + total lo m h
unfolding total
total_add zero lo g h = refl
total_add (suc m) lo g h = omega (arith, total_add m (suc lo) g h)

-- The order of two sums can be changed.
total_swap : (m lo k at : ℕ) (g : ℕ → ℕ → ℕ) → total lo m (λ x. total at k (λ y. g x y)) ≡ total at k (λ y. total lo m (λ x. g x y))
unfolding total
total_swap zero lo k at g = sym (total_zero k at)
total_swap (suc m) lo k at g = ap (total at k (λ y. g lo y) +◌) (total_swap m (suc lo) k at g) ∙ sym (total_add k at (λ y. g lo y) (λ y. total (suc lo) m (λ x. g x y)))

-- The sum of "choose k" over the numbers left above each position is "choose k + 1".
total_choose : (k m lo hi : ℕ) (g : ℕ → ℕ) → lo + m ≡ hi → ((x : ℕ) → lo ≤ x → x < hi → g x ≡ choose k (hi - suc x)) → total lo m g ≡ choose (suc k) m
unfolding total choose
total_choose k zero lo hi g p h = refl
total_choose k (suc m) lo hi g p h =
    let e : hi - suc lo ≡ m = omega arith in
    ap₂ ◌+◌ (rw e at (h lo (omega arith) (omega arith))) (total_choose k m (suc lo) hi g (omega arith) (λ x u v. h x (omega arith) v))

totals_choose : (k lo hi : ℕ) (g : ℕ → ℕ) → ((x : ℕ) → lo ≤ x → x < hi → g x ≡ choose k (hi - suc x)) → total lo (hi - lo) g ≡ choose (suc k) (hi - lo)
unfolding total choose
totals_choose k lo hi g h = by (dec_le lo hi)
  where
    by : Dec (lo ≤ hi) → total lo (hi - lo) g ≡ choose (suc k) (hi - lo)
    by (yes p) = total_choose k (hi - lo) lo hi g (omega arith) h
    by (no p) = let e : hi - lo ≡ 0 = omega arith in rw e

-- The number of combinations that a range of positions lists, over all sums.
layer : (T k lo hi : ℕ) (h : ℕ → ℕ → List Combination) → ((x : ℕ) → lo ≤ x → x < hi → total 0 T (λ s. length (h x s)) ≡ choose k (hi - suc x)) → total 0 T (λ s. length (each (upto lo hi) (λ x. h x s))) ≡ choose (suc k) (hi - lo)
unfolding upto
layer T k lo hi h p =
    total-≡ T 0 (λ s. length (each (span lo (hi - lo)) (λ x. h x s))) (λ s. total lo (hi - lo) (λ x. length (h x s))) (λ s. length_span (hi - lo) lo (λ x. h x s))
    ∙ total_swap T 0 (hi - lo) lo (λ s x. length (h x s))
    ∙ totals_choose k lo hi (λ x. total 0 T (λ s. length (h x s))) p

-- A combination has exactly one sum.
one_sum : (q : Combination) (k m lo : ℕ) → lo ≤ k → k < lo + m → total lo m (λ s. length (cond (eqb k s) (q ∷ []) [])) ≡ 1
unfolding total
one_sum q k zero lo u v = absurd (omega arith)
one_sum q k (suc m) lo u v = by (dec_le k lo) (λ z. one_sum q k m (suc lo) z (omega arith))
  where
    later : (m lo : ℕ) → k < lo → total lo m (λ s. length (cond (eqb k s) (q ∷ []) [])) ≡ 0
    later zero lo p = refl
    later (suc m) lo p = rw (ne_eqb k lo (λ e. omega arith)) (omega (arith, later m (suc lo) (omega arith)))

    by : Dec (k ≤ lo) → (lo < k → total (suc lo) m (λ s. length (cond (eqb k s) (q ∷ []) [])) ≡ 1) → length (cond (eqb k lo) (q ∷ []) []) + total (suc lo) m (λ s. length (cond (eqb k s) (q ∷ []) [])) ≡ 1
    by (yes r) ih = rw (eq-eqb k lo (omega arith)) (omega (arith, later m (suc lo) (omega arith)))
    by (no r) ih = rw (ne_eqb k lo (λ e. r (omega arith))) (omega (arith, ih (omega arith)))

pub combinations_count : CombinationsCount
unfolding combination_list combinations_of_sum upto choose
combinations_count n =
    length_span (4 * n - 0) 0 (combinations_of_sum n)
    ∙ layer (4 * n - 0) 3 0 n _ (λ a _ a<.
    layer (4 * n - 0) 2 (suc a) n _ λ b _ b<.
    layer (4 * n - 0) 1 (suc b) n _ λ c _ c<.
    layer (4 * n - 0) 0 (suc c) n _ λ d _ d<.
    one_sum (record { a = a; b = b; c = c; d = d }) (a + b + c + d) (4 * n - 0) 0 (omega arith) (omega arith))
    ∙ ap (choose 4) (sub-zero n)

pub choose_64 : choose 4 64 ≡ 635376
unfolding choose
choose_64 = refl

pub choose_grows : (k m n : ℕ) → m ≤ n → choose k m ≤ choose k n
unfolding choose
choose_grows zero m n h = omega arith
choose_grows (suc k) zero n h = omega arith
choose_grows (suc k) (suc m) zero h = absurd (omega arith)
choose_grows (suc k) (suc m) (suc n) h = omega (arith, choose_grows k m n (omega arith), choose_grows (suc k) m n (omega arith))

pub combinations_64 : Combinations64
combinations_64 n h = omega (arith, combinations_count n, choose_64, choose_grows 4 n 64 h)
