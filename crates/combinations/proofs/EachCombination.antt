-- The list of the combinations below n: each is strictly rising and below n, and each such combination is listed exactly once. Assumes nothing.
use mathlib.Core.Path.{◌≡◌, refl, sym, ◌∙◌, ap}
use Prim.Native.Nat.{ℕ, zero, suc, ◌+◌, ◌-◌, ◌*◌, ◌≤◌, ◌<◌}
use native.Mathlib.Omega.{arith}
use native.Mathlib.Decide.{dec_le}
use mathlib.Core.List.{List, [], ◌∷◌, ◌++◌}
use mathlib.Core.Bool.{Bool, true, false, cond, ◌&&◌}
use borrow.Author.Tests.{eq-eqb, eqb-true}
use lib.Dec.{eqb}
use Rattle.combinations.specs.Lists.{each, span, upto, All}
use Rattle.combinations.specs.Combinations.{Combination, four, Rising, combinations_of_sum, combination_list, sum, same_combination, times}
use Rattle.combinations.specs.Claims.{CombinationsRise, CombinationsAll, CombinationsOnce}
use Rattle.combinations.proofs.Lists.{all_span, all_upto, in_upto}

pub all_if : (P : Combination → Type 0) (x y : ℕ) (q : Combination) → (x ≡ y → P q) → All P (cond (eqb x y) (q ∷ []) [])
all_if P x y q h = by (eqb x y) refl
  where
    by : (b : Bool) → eqb x y ≡ b → All P (cond b (q ∷ []) [])
    by true e = (h (eqb-true x y e), tt)
    by false e = tt

-- What holds of every rising combination with the sum s holds of every combination listed for s.
pub all_combinations_of_sum : (P : Combination → Type 0) (n s : ℕ) → ((q : Combination) → Rising n q → sum q ≡ s → P q) → All P (combinations_of_sum n s)
unfolding combinations_of_sum sum
all_combinations_of_sum P n s h =
    all_upto P 0 n _ λ a p₁ a<.
    all_upto P (suc a) n _ λ b ab b<.
    all_upto P (suc b) n _ λ c bc c<.
    all_upto P (suc c) n _ λ d cd d<.
    all_if P (a + b + c + d) s (four a b c d) λ e. h (four a b c d) (record { ab = ab; bc = bc; cd = cd; dn = d< }) e

-- Each listed combination is rising and below n.
pub combinations_rise : CombinationsRise
unfolding combination_list
combinations_rise n = all_upto (Rising n) 0 (4 * n) (combinations_of_sum n) λ s p q. all_combinations_of_sum (Rising n) n s λ f r e. r

-- Every rising combination below n is listed.
pub combinations_all : CombinationsAll
unfolding combination_list combinations_of_sum sum
combinations_all n q r =
    in_upto q 0 (4 * n) _ (sum q) (omega arith) (omega (arith, r.ab, r.bc, r.cd, r.dn))
    (in_upto q 0 n _ q.a (omega arith) (omega (arith, r.ab, r.bc, r.cd, r.dn))
    (in_upto q (suc q.a) n _ q.b r.ab (omega (arith, r.bc, r.cd, r.dn))
    (in_upto q (suc q.b) n _ q.c r.bc (omega (arith, r.cd, r.dn))
    (in_upto q (suc q.c) n _ q.d r.cd r.dn
    ([], [], rw (eq-eqb (sum q) (sum q) refl))))))

and_left : (x y : Bool) → (x && y) ≡ true → x ≡ true
and_left true y h = refl
and_left false y h = h

and_right : (x y : Bool) → (x && y) ≡ true → y ≡ true
and_right true y h = h
and_right false y h = cc

record Equal (q p : Combination) : Type 0 where
  a : q.a ≡ p.a
  b : q.b ≡ p.b
  c : q.c ≡ p.c
  d : q.d ≡ p.d

same_true : (q p : Combination) → same_combination q p ≡ true → Equal q p
unfolding same_combination
same_true q p h =
    let t = and_right (eqb q.a p.a) _ h in
    let u = and_right (eqb q.b p.b) _ t in
    record {
      a = eqb-true _ _ (and_left (eqb q.a p.a) _ h);
      b = eqb-true _ _ (and_left (eqb q.b p.b) _ t);
      c = eqb-true _ _ (and_left (eqb q.c p.c) _ u);
      d = eqb-true _ _ (and_right (eqb q.c p.c) _ u);
    }

same_self : (q : Combination) → same_combination q q ≡ true
unfolding same_combination
same_self q = rw (eq-eqb q.a q.a refl, eq-eqb q.b q.b refl, eq-eqb q.c q.c refl, eq-eqb q.d q.d refl)

module _ (q : Combination) where
  abbrev Other : Combination → Type 0
  Other p = same_combination q p ≡ false

  other : (p : Combination) → (Equal q p → ⊥) → Other p
  other p h = by (same_combination q p) refl
    where
      by : (b : Bool) → same_combination q p ≡ b → b ≡ false
      by true e = absurd (h (same_true q p e))
      by false e = refl

  other_if : (a b c d : ℕ) → (Equal q (four a b c d) → ⊥) → All Other (cond (eqb (a + b + c + d) (sum q)) (four a b c d ∷ []) [])
  other_if a b c d h = all_if Other (a + b + c + d) (sum q) (four a b c d) λ _. other (four a b c d) h

  times_append : (xs ys : List Combination) → times q (xs ++ ys) ≡ times q xs + times q ys
  unfolding times
  times_append [] ys = omega arith
  times_append (x ∷ xs) ys = by (same_combination q x) (times_append xs ys)
    where
      by : (b : Bool) → times q (xs ++ ys) ≡ times q xs + times q ys → cond b (suc (times q (xs ++ ys))) (times q (xs ++ ys)) ≡ cond b (suc (times q xs)) (times q xs) + times q ys
      by true h = omega arith
      by false h = h

  times_none : (xs : List Combination) → All Other xs → times q xs ≡ 0
  unfolding times
  times_none [] h = refl
  times_none (x ∷ xs) h = rw h.0 (times_none xs h.1)

  times_span : (m lo key : ℕ) (f : ℕ → List Combination) → lo ≤ key → key < lo + m → ((x : ℕ) → (x ≡ key → ⊥) → All Other (f x)) → times q (each (span lo m) f) ≡ times q (f key)
  unfolding each span
  times_span zero lo key f p r h = absurd (omega arith)
  times_span (suc m) lo key f p r h = by (dec_le key lo) (λ z. times_span m (suc lo) key f z (omega arith) h)
    where
      by : Dec (key ≤ lo) → (lo < key → times q (each (span (suc lo) m) f) ≡ times q (f key)) → times q (f lo ++ each (span (suc lo) m) f) ≡ times q (f key)
      by (yes z) ih =
          let e : lo ≡ key = omega arith in
          omega (arith, times_append (f lo) (each (span (suc lo) m) f), ap (λ y. times q (f y)) e, times_none (each (span (suc lo) m) f) (all_span Other m (suc lo) f λ x u v. h x (λ w. omega arith)))
      by (no z) ih = omega (arith, times_append (f lo) (each (span (suc lo) m) f), times_none (f lo) (h lo (λ w. z (omega arith))), ih (omega arith))

  times_upto : (lo hi key : ℕ) (f : ℕ → List Combination) → lo ≤ key → key < hi → ((x : ℕ) → (x ≡ key → ⊥) → All Other (f x)) → times q (each (upto lo hi) f) ≡ times q (f key)
  unfolding upto
  times_upto lo hi key f p r h = times_span (hi - lo) lo key f p (omega arith) h

-- Every rising combination below n is listed exactly once.
pub combinations_once : CombinationsOnce
unfolding combination_list combinations_of_sum sum times
combinations_once n q r =
    times_upto q 0 (4 * n) (sum q) (combinations_of_sum n) (omega arith) (omega (arith, r.ab, r.bc, r.cd, r.dn))
    (λ s z. all_combinations_of_sum (Other q) n s λ p _ e. other q p λ w. z (omega (arith, w.a, w.b, w.c, w.d)))
    ∙ times_upto q 0 n q.a _ (omega arith) (omega (arith, r.ab, r.bc, r.cd, r.dn))
    (λ a z. all_upto (Other q) _ n _ λ b _ _. all_upto (Other q) _ n _ λ c _ _. all_upto (Other q) _ n _ λ d _ _. other_if q a b c d λ w. z (sym w.a))
    ∙ times_upto q (suc q.a) n q.b _ r.ab (omega (arith, r.bc, r.cd, r.dn))
    (λ b z. all_upto (Other q) _ n _ λ c _ _. all_upto (Other q) _ n _ λ d _ _. other_if q q.a b c d λ w. z (sym w.b))
    ∙ times_upto q (suc q.b) n q.c _ r.bc (omega (arith, r.cd, r.dn))
    (λ c z. all_upto (Other q) _ n _ λ d _ _. other_if q q.a q.b c d λ w. z (sym w.c))
    ∙ times_upto q (suc q.c) n q.d _ r.cd r.dn
    (λ d z. other_if q q.a q.b q.c d λ w. z (sym w.d))
    ∙ (rw (eq-eqb (sum q) (sum q) refl, same_self q))
