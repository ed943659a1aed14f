-- The successor enumerates the combinations in their order. Assumes nothing.
use mathlib.Core.Path.{◌≡◌, refl, sym, ◌∙◌, ap}
use Prim.Native.Nat.{ℕ, zero, suc, ◌+◌, ◌-◌, ◌*◌, ◌≤◌, ◌<◌, max}
use native.Mathlib.Omega.{arith}
use native.Mathlib.Nat.{max-eq_left}
use native.Mathlib.Decide.{dec_le}
use mathlib.Core.List.{List, [], ◌∷◌, ◌++◌}
use mathlib.Core.Bool.{cond}
use Rattle.std.specs.Prelude.{Option, None, Some}
use borrow.Author.Tests.{le-leb, lt-leb, eq-eqb, ne_eqb}
use lib.Dec.{leb, eqb}
use Rattle.combinations.specs.Lists.{each, span, upto, Follows}
use Rattle.combinations.specs.Combinations.{Combination, four, combinations_of_sum, combination_list, sum}
use Rattle.combinations.specs.Successor.{with_a, with_b, with_c, from_sum, from_a, from_b, from_c, first_combination, next_combination}
use Rattle.combinations.specs.Claims.{EnumeratesCombinations}

-- From o the successor gives exactly the elements of the list, in order, and then e.
abbrev FollowsTo : {A : Type 0} → (A → Option A) → Option A → List A → Option A → Type 0
FollowsTo next o [] e = o ≡ e
FollowsTo next o (x ∷ xs) e = (o ≡ Some x) × FollowsTo next (next x) xs e

module _ {A : Type 0} (next : A → Option A) where
  joined : (xs ys : List A) (o m e : Option A) → FollowsTo next o xs m → FollowsTo next m ys e → FollowsTo next o (xs ++ ys) e
  joined [] ys o m e p q = rw p q
  joined (x ∷ xs) ys o m e p q = (p.0, joined xs ys (next x) m e p.1 q)

  -- A list joined from one list for each number is enumerated where each of these lists is.
  stacked : (start : ℕ → Option A) (f : ℕ → List A) → ((x : ℕ) → FollowsTo next (start x) (f x) (start (suc x))) → (m lo : ℕ) → FollowsTo next (start lo) (each (span lo m) f) (start (lo + m))
  unfolding each span
  stacked start f h zero lo = ap start (omega arith)
  stacked start f h (suc m) lo = joined (f lo) _ _ (start (suc lo)) _ (h lo) (let e : suc lo + m ≡ lo + suc m = omega arith in rw (← e) (stacked start f h m (suc lo)))

-- The combinations f d with a fourth position d of ds for which k + d is the sum s. There is at most one.
fourths : (ℕ → Combination) → ℕ → ℕ → List ℕ → List Combination
fourths f k s ds = each ds λ d. cond (eqb (k + d) s) (f d ∷ []) []

fourths_none : (f : ℕ → Combination) (k s m lo : ℕ) → ((d : ℕ) → lo ≤ d → d < lo + m → k + d ≡ s → ⊥) → fourths f k s (span lo m) ≡ []
unfolding fourths each span
fourths_none f k s zero lo h = refl
fourths_none f k s (suc m) lo h =
    rw (ne_eqb (k + lo) s (h lo (omega arith) (omega arith)))
    (fourths_none f k s m (suc lo) (λ d p q e. h d (omega arith) (omega arith) e))

fourths_one : (f : ℕ → Combination) (k s m lo x : ℕ) → lo ≤ x → x < lo + m → k + x ≡ s → fourths f k s (span lo m) ≡ f x ∷ []
unfolding fourths each span
fourths_one f k s zero lo x p q e = absurd (omega arith)
fourths_one f k s (suc m) lo x p q e = by (dec_le x lo) (λ u. fourths_one f k s m (suc lo) x u (omega arith) e)
  where
    by : Dec (x ≤ lo) → (lo < x → fourths f k s (span (suc lo) m) ≡ f x ∷ []) → cond (eqb (k + lo) s) (f lo ∷ []) [] ++ fourths f k s (span (suc lo) m) ≡ f x ∷ []
    by (yes h) ih =
        let z : lo ≡ x = omega arith in
        rw (eq-eqb (k + lo) s (omega arith), fourths_none f k s m (suc lo) (λ d u v w. omega arith)) (ap (λ y. f y ∷ []) z)
    by (no h) ih = rw (ne_eqb (k + lo) s (λ w. h (omega arith))) (ih (omega arith))

cond_yes : {A : Type 0} (x y : ℕ) (u v : A) → x ≤ y → cond (leb x y) u v ≡ u
cond_yes x y u v h = rw (le-leb x y h)

cond_no : {A : Type 0} (x y : ℕ) (u v : A) → y < x → cond (leb x y) u v ≡ v
cond_no x y u v h = rw (lt-leb x y h)

module _ (n s : ℕ) where
  module _ (a b : ℕ) where
    thirds : ℕ → List Combination
    thirds c = each (upto (suc c) n) λ d. cond (eqb (a + b + c + d) s) (four a b c d ∷ []) []

    from_c_hit : (c : ℕ) → s + 1 - (a + b + n) ≤ c → a + b + 2 * c + 1 ≤ s → from_c n s a b c ≡ Some (four a b c (s - (a + b + c)))
    unfolding from_c with_c
    from_c_hit c p q = rw (max-eq_left p) (cond_yes _ _ _ _ q)

    from_c_low : (c : ℕ) → c < s + 1 - (a + b + n) → from_c n s a b c ≡ from_c n s a b (suc c)
    unfolding from_c with_c
    from_c_low c p =
        let u : max c (s + 1 - (a + b + n)) ≡ max (suc c) (s + 1 - (a + b + n)) = omega arith in
        rw u

    from_c_miss : (c : ℕ) → s < a + b + 2 * max c (s + 1 - (a + b + n)) + 1 → from_c n s a b c ≡ from_b n s a (suc b)
    unfolding from_c
    from_c_miss c p = cond_no _ _ _ _ p

    next_combination_at : (c d : ℕ) → a + b + c + d ≡ s → next_combination n (four a b c d) ≡ from_c n s a b (suc c)
    unfolding next_combination sum
    next_combination_at c d e = rw e

    c_layer : (c : ℕ) → FollowsTo (next_combination n) (from_c n s a b c) (thirds c) (from_c n s a b (suc c))
    unfolding thirds upto fourths
    c_layer c = by (dec_le (s + 1 - (a + b + n)) c) (dec_le (a + b + 2 * c + 1) s)
      where
        by : Dec (s + 1 - (a + b + n) ≤ c) → Dec (a + b + 2 * c + 1 ≤ s) → FollowsTo (next_combination n) (from_c n s a b c) (thirds c) (from_c n s a b (suc c))
        by (yes p) (yes q) =
            rw (fourths_one (four a b c) (a + b + c) s (n - suc c) (suc c) (s - (a + b + c)) (omega arith) (omega arith) (omega arith))
            (from_c_hit c p q, next_combination_at c _ (omega arith))
        by (yes p) (no q) =
            rw (fourths_none (four a b c) (a + b + c) s (n - suc c) (suc c) (λ d u v w. q (omega arith)))
            (from_c_miss c (omega arith) ∙ sym (from_c_miss (suc c) (omega arith)))
        by (no p) (yes q) =
            rw (fourths_none (four a b c) (a + b + c) s (n - suc c) (suc c) (λ d u v w. p (omega arith)))
            (from_c_low c (omega arith))
        by (no p) (no q) =
            rw (fourths_none (four a b c) (a + b + c) s (n - suc c) (suc c) (λ d u v w. p (omega arith)))
            (from_c_low c (omega arith))

  module _ (a : ℕ) where
    seconds : ℕ → List Combination
    seconds b = each (upto (suc b) n) (thirds a b)

    from_b_low : (b : ℕ) → b < s + 3 - (a + 2 * n) → from_b n s a b ≡ from_b n s a (suc b)
    unfolding from_b with_b
    from_b_low b p =
        let u : max b (s + 3 - (a + 2 * n)) ≡ max (suc b) (s + 3 - (a + 2 * n)) = omega arith in
        rw u

    from_b_miss : (b : ℕ) → s < a + 3 * max b (s + 3 - (a + 2 * n)) + 3 → from_b n s a b ≡ from_a n s (suc a)
    unfolding from_b
    from_b_miss b p = cond_no _ _ _ _ p

    from_b_hit : (b : ℕ) → s + 3 - (a + 2 * n) ≤ b → a + 3 * b + 3 ≤ s → from_b n s a b ≡ from_c n s a b (suc b)
    unfolding from_b with_b from_c
    from_b_hit b p q =
        rw (max-eq_left p)
        (cond_yes (a + 3 * b + 3) s _ _ q
        ∙ sym (cond_yes (a + b + 2 * max (suc b) (s + 1 - (a + b + n)) + 1) s _ _ (omega arith)))

    b_start : (b : ℕ) → from_b n s a b ≡ from_c n s a b (suc b)
    b_start b = by (dec_le (s + 3 - (a + 2 * n)) b) (dec_le (a + 3 * b + 3) s)
      where
        by : Dec (s + 3 - (a + 2 * n) ≤ b) → Dec (a + 3 * b + 3 ≤ s) → from_b n s a b ≡ from_c n s a b (suc b)
        by (yes p) (yes q) = from_b_hit b p q
        by (yes p) (no q) = from_b_miss b (omega arith) ∙ sym (from_b_miss (suc b) (omega arith)) ∙ sym (from_c_miss a b (suc b) (omega arith))
        by (no p) (yes q) = from_b_low b (omega arith) ∙ sym (from_c_miss a b (suc b) (omega arith))
        by (no p) (no q) = from_b_low b (omega arith) ∙ sym (from_c_miss a b (suc b) (omega arith))

    b_layer : (b : ℕ) → FollowsTo (next_combination n) (from_b n s a b) (seconds b) (from_b n s a (suc b))
    unfolding seconds upto
    b_layer b =
        rw (b_start b, ← from_c_miss a b (suc b + (n - suc b)) (omega arith))
        (stacked (next_combination n) (from_c n s a b) (thirds a b) (c_layer a b) (n - suc b) (suc b))

  firsts : ℕ → List Combination
  firsts a = each (upto (suc a) n) (seconds a)

  from_a_low : (a : ℕ) → a < s + 6 - 3 * n → from_a n s a ≡ from_a n s (suc a)
  unfolding from_a with_a
  from_a_low a p =
      let u : max a (s + 6 - 3 * n) ≡ max (suc a) (s + 6 - 3 * n) = omega arith in
      rw u

  from_a_miss : (a : ℕ) → s < 4 * max a (s + 6 - 3 * n) + 6 → from_a n s a ≡ from_sum n (suc s)
  unfolding from_a
  from_a_miss a p = cond_no _ _ _ _ p

  from_a_hit : (a : ℕ) → s + 6 - 3 * n ≤ a → 4 * a + 6 ≤ s → from_a n s a ≡ from_b n s a (suc a)
  unfolding from_a with_a from_b
  from_a_hit a p q =
      rw (max-eq_left p)
      (cond_yes (4 * a + 6) s _ _ q
      ∙ sym (cond_yes (a + 3 * max (suc a) (s + 3 - (a + 2 * n)) + 3) s _ _ (omega arith)))

  a_start : (a : ℕ) → from_a n s a ≡ from_b n s a (suc a)
  a_start a = by (dec_le (s + 6 - 3 * n) a) (dec_le (4 * a + 6) s)
    where
      by : Dec (s + 6 - 3 * n ≤ a) → Dec (4 * a + 6 ≤ s) → from_a n s a ≡ from_b n s a (suc a)
      by (yes p) (yes q) = from_a_hit a p q
      by (yes p) (no q) = from_a_miss a (omega arith) ∙ sym (from_a_miss (suc a) (omega arith)) ∙ sym (from_b_miss a (suc a) (omega arith))
      by (no p) (yes q) = from_a_low a (omega arith) ∙ sym (from_b_miss a (suc a) (omega arith))
      by (no p) (no q) = from_a_low a (omega arith) ∙ sym (from_b_miss a (suc a) (omega arith))

  a_layer : (a : ℕ) → FollowsTo (next_combination n) (from_a n s a) (firsts a) (from_a n s (suc a))
  unfolding firsts upto
  a_layer a =
      rw (a_start a, ← from_b_miss a (suc a + (n - suc a)) (omega arith))
      (stacked (next_combination n) (from_b n s a) (seconds a) (b_layer a) (n - suc a) (suc a))

module _ (n : ℕ) where
  from_sum_low : (s : ℕ) → s < 6 → from_sum n s ≡ from_sum n (suc s)
  unfolding from_sum
  from_sum_low s p =
      let u : max s 6 ≡ max (suc s) 6 = omega arith in
      rw u

  from_sum_miss : (s : ℕ) → 4 * n < max s 6 + 10 → from_sum n s ≡ None
  unfolding from_sum
  from_sum_miss s p = cond_no _ _ _ _ p

  from_sum_hit : (s : ℕ) → 6 ≤ s → s + 10 ≤ 4 * n → from_sum n s ≡ from_a n s 0
  unfolding from_sum from_a
  from_sum_hit s p q =
      rw (max-eq_left p)
      (cond_yes (s + 10) (4 * n) _ _ q
      ∙ sym (cond_yes (4 * max 0 (s + 6 - 3 * n) + 6) s _ _ (omega arith)))

  s_start : (s : ℕ) → from_sum n s ≡ from_a n s 0
  s_start s = by (dec_le 6 s) (dec_le (s + 10) (4 * n))
    where
      by : Dec (6 ≤ s) → Dec (s + 10 ≤ 4 * n) → from_sum n s ≡ from_a n s 0
      by (yes p) (yes q) = from_sum_hit s p q
      by (yes p) (no q) = from_sum_miss s (omega arith) ∙ sym (from_sum_miss (suc s) (omega arith)) ∙ sym (from_a_miss n s 0 (omega arith))
      by (no p) (yes q) = from_sum_low s (omega arith) ∙ sym (from_a_miss n s 0 (omega arith))
      by (no p) (no q) = from_sum_low s (omega arith) ∙ sym (from_a_miss n s 0 (omega arith))

  s_layer : (s : ℕ) → FollowsTo (next_combination n) (from_sum n s) (combinations_of_sum n s) (from_sum n (suc s))
  unfolding combinations_of_sum upto firsts seconds thirds
  s_layer s =
      rw (s_start s, ← from_a_miss n s (0 + (n - 0)) (omega arith))
      (stacked (next_combination n) (from_a n s) (firsts n s) (a_layer n s) (n - 0) 0)

ends_none : {A : Type 0} (next : A → Option A) (xs : List A) (o e : Option A) → e ≡ None → FollowsTo next o xs e → Follows next o xs
ends_none next [] o e z h = h ∙ z
ends_none next (x ∷ xs) o e z h = (h.0, ends_none next xs (next x) e z h.1)

-- The successor enumerates all the combinations, in their order.
pub enumerates_combinations : EnumeratesCombinations
unfolding combination_list upto first_combination
enumerates_combinations n =
    ends_none (next_combination n) (combination_list n) (from_sum n 0) _ (from_sum_miss n (0 + (4 * n - 0)) (omega arith))
    (stacked (next_combination n) (from_sum n) (combinations_of_sum n) (s_layer n) (4 * n - 0) 0)
