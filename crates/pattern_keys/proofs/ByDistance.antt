-- The list of keys is in order: by squared distance, then lexicographically, so that no key comes twice. Assumes nothing.
use mathlib.Core.Path.{◌≡◌, refl, sym, ap, ◌∙◌, subst}
use mathlib.Core.Logic.{inl, inr}
use Prim.Native.Nat.{ℕ, zero, suc, ◌+◌, ◌-◌, ◌*◌, ◌<◌, max}
use native.Mathlib.Omega.{arith}
use mathlib.Core.Bool.{Bool, true, false, cond}
use mathlib.Core.List.{List, [], ◌∷◌, ◌++◌}
use lib.Dec.{T, eqb, eqb→eq}
use lib.ListN.{length, get_or, set, length-set}
use lib.Seq.{get_or-set_same, get_or-set_other}
use Rattle.pattern_keys.specs.Keys.{concat_map, run, part_values, level, start, in_range, squared_difference, squared_distance, at_distance, nearest_first, farthest, keys_of}
use Rattle.pattern_keys.specs.Listed.{Has, here, there, Before, Precedes, Ordered, ordered_none, ordered}
use Rattle.pattern_keys.specs.KeysClaims.{KeysOrdered, PrecedesAnother}
use Rattle.pattern_keys.proofs.KeysExact.{has_none, has_one, has_split, concat_map_from, run_from, part_values_from}

-- ---- ordered lists, one after the other
joined : {R : List ℕ → List ℕ → Type 0} (l m : List (List ℕ)) → Ordered R l → Ordered R m → ((x y : List ℕ) → Has x l → Has y m → R x y) → Ordered R (l ++ m)
joined [] m ordered_none q h = q
joined {R} (k ∷ l) m (ordered f p) q h = ordered (λ y g. either y g) (joined l m p q (λ x y a b. h x y (there k a) b))
  where
    either : (y : List ℕ) → Has y (l ++ m) → R k y
    either y g = elim (has_split l m g) [ inl a ↦ f y a | inr b ↦ h k y (here l) b ]

single : {R : List ℕ → List ℕ → Type 0} (k : List ℕ) → Ordered R (k ∷ [])
single k = ordered (λ y h. absurd (has_none h)) ordered_none

-- The lists that f gives for the keys are ordered, and what f gives for an earlier key comes before what it gives for a later one.
concat_map_ordered : {Q R : List ℕ → List ℕ → Type 0} (f : List ℕ → List (List ℕ)) (ks : List (List ℕ)) → Ordered Q ks
    → ((x : List ℕ) → Has x ks → Ordered R (f x))
    → ((x x' y y' : List ℕ) → Has x ks → Has x' ks → Q x x' → Has y (f x) → Has y' (f x') → R y y')
    → Ordered R (concat_map f ks)
unfolding concat_map
concat_map_ordered f [] ordered_none g h = ordered_none
concat_map_ordered f (k ∷ ks) (ordered q o) g h =
    joined (f k) (concat_map f ks) (g k (here ks)) (concat_map_ordered f ks o (λ x a. g x (there k a)) (λ x x' y y' a a' c b b'. h x x' y y' (there k a) (there k a') c b b'))
    (λ y y' b b'. let r = concat_map_from f ks b' in h k r.x y y' (here ks) (there k r.is) (q r.x r.is) b r.gives)

-- ---- lexicographically, part by part: a list whose keys have five parts and differ in the first n
record Level (n : ℕ) (ks : List (List ℕ)) : Type 0 where
  order : Ordered (Before n) ks
  long : (k : List ℕ) → Has k ks → length k ≡ 5

-- The same key with a larger part j comes later.
step_up : (j u v : ℕ) (k : List ℕ) → j < length k → u < v → Before (suc j) (set k j u) (set k j v)
step_up j u v k h l =
    record {
      at = j;
      early = omega arith;
      same = λ i b. get_or-set_other k j i u 0 (λ e. differ i b e) ∙ sym (get_or-set_other k j i v 0 (λ e. differ i b e));
      less = rw (get_or-set_same k j u 0 h, get_or-set_same k j v 0 h) l;
    }
  where
    differ : (i : ℕ) → i < j → i ≡ j → ⊥
    differ i b e = omega arith

-- A difference before part j remains whatever part j is set to.
stays : (j u v : ℕ) (k m : List ℕ) → Before j k m → Before (suc j) (set k j u) (set m j v)
stays j u v k m b =
    let a = b.at in
    let off : (i : ℕ) (x : ℕ) (l : List ℕ) → i < j → get_or (set l j x) i 0 ≡ get_or l i 0 = λ i x l p. get_or-set_other l j i x 0 (λ e. differ i p e) in
    let e = b.early in
    record {
      at = a;
      early = omega arith;
      same = λ i p. off i u k (omega arith) ∙ b.same i p ∙ sym (off i v m (omega arith));
      less = rw (off a u k e, off a v m e) b.less;
    }
  where
    differ : (i : ℕ) → i < j → i ≡ j → ⊥
    differ i b e = omega arith

run_ordered : (j a n : ℕ) (k : List ℕ) → j < length k → Ordered (Before (suc j)) (run j a n k)
unfolding run
run_ordered j a zero k h = ordered_none
run_ordered j a (suc n) k h =
    joined (run j a n k) (set k j (a + n) ∷ []) (run_ordered j a n k h) (single (set k j (a + n)))
    (λ x y p q. let r = run_from j a n k p in let w = r.below in
    subst (λ (z : List ℕ). Before (suc j) z y) (sym r.is) (subst (λ (z : List ℕ). Before (suc j) (set k j (a + r.i)) z) (sym (has_one (set k j (a + n)) q)) (step_up j (a + r.i) (a + n) k h (omega arith))))

level_up : (b j lo hi : ℕ) (ks : List (List ℕ)) → j < 5 → Level j ks → Level (suc j) (concat_map (part_values b j lo hi) ks)
unfolding part_values
level_up b j lo hi ks h l =
    record {
      order =
          concat_map_ordered (part_values b j lo hi) ks l.order
          (λ x p. run_ordered j (max lo (get_or x b 0)) (suc hi - max lo (get_or x b 0)) x (omega (arith, l.long x p)))
          (λ x x' y y' p p' q r r'. let s = part_values_from b j lo hi x r in let s' = part_values_from b j lo hi x' r' in
          subst (λ (z : List ℕ). Before (suc j) z y') (sym s.is) (subst (λ (z : List ℕ). Before (suc j) (set x j s.v) z) (sym s'.is) (stays j s.v s'.v x x' q)));
      long = λ k p. let r = concat_map_from (part_values b j lo hi) ks p in let s = part_values_from b j lo hi r.x r.gives in
          ap length s.is ∙ length-set r.x j s.v ∙ l.long r.x r.is;
    }

in_range_ordered : (lo hi : List ℕ) → Ordered (Before 5) (in_range lo hi)
unfolding in_range
in_range_ordered lo hi =
    let l : Level 0 start = record { order = single (0 ∷ 0 ∷ 0 ∷ 0 ∷ 0 ∷ []); long = λ k h. ap length (has_one (0 ∷ 0 ∷ 0 ∷ 0 ∷ 0 ∷ []) h) } in
    let l0 = level_up 0 0 (get_or lo 0 0) (get_or hi 0 0) start (omega arith) l in
    let l1 = level_up 0 1 (get_or lo 1 0) (get_or hi 1 0) (level 0 lo hi start) (omega arith) l0 in
    let l2 = level_up 1 2 (get_or lo 2 0) (get_or hi 2 0) (level 1 lo hi (level 0 lo hi start)) (omega arith) l1 in
    let l3 = level_up 2 3 (get_or lo 3 0) (get_or hi 3 0) (level 2 lo hi (level 1 lo hi (level 0 lo hi start))) (omega arith) l2 in
    (level_up 3 4 (get_or lo 4 0) (get_or hi 4 0) (level 3 lo hi (level 2 lo hi (level 1 lo hi (level 0 lo hi start)))) (omega arith) l3).order

-- ---- by distance
at_squared_distance : (c : List ℕ) (d : ℕ) (x : List ℕ) {k : List ℕ} → Has k (at_distance c d x) → (k ≡ x) × (squared_distance c k ≡ d)
unfolding at_distance
at_squared_distance c d x {k} h = go (eqb (squared_distance c x) d) (eqb→eq (squared_distance c x) d) h
  where
    go : (b : Bool) → (T b → squared_distance c x ≡ d) → Has k (cond b (x ∷ []) []) → (k ≡ x) × (squared_distance c k ≡ d)
    go true e g = (has_one x g, ap (squared_distance c) (has_one x g) ∙ e tt)
    go false e g = absurd (has_none g)

at_ordered : {R : List ℕ → List ℕ → Type 0} (c : List ℕ) (d : ℕ) (x : List ℕ) → Ordered R (at_distance c d x)
unfolding at_distance
at_ordered {R} c d x = go (eqb (squared_distance c x) d)
  where
    go : (b : Bool) → Ordered R (cond b (x ∷ []) [])
    go true = single x
    go false = ordered_none

all_at : (c : List ℕ) (d : ℕ) (ks : List (List ℕ)) {k : List ℕ} → Has k (concat_map (at_distance c d) ks) → squared_distance c k ≡ d
all_at c d ks h = let r = concat_map_from (at_distance c d) ks h in (at_squared_distance c d r.x r.gives).1

same_distance : (c : List ℕ) (d : ℕ) (ks : List (List ℕ)) → Ordered (Before 5) ks → Ordered (Precedes c) (concat_map (at_distance c d) ks)
same_distance c d ks o =
    concat_map_ordered (at_distance c d) ks o (λ x h. at_ordered c d x)
    (λ x x' y y' h h' b p p'. let e = at_squared_distance c d x p in let e' = at_squared_distance c d x' p' in
    inr (e.1 ∙ sym e'.1, subst (λ (z : List ℕ). Before 5 z y') (sym e.0) (subst (λ (z : List ℕ). Before 5 x z) (sym e'.0) b)))

below : (c : List ℕ) (ks : List (List ℕ)) (n : ℕ) {k : List ℕ} → Has k (nearest_first c ks n) → squared_distance c k < n
unfolding nearest_first
below c ks zero h = absurd (has_none h)
below c ks (suc d) {k} h =
    elim (has_split (nearest_first c ks d) (concat_map (at_distance c d) ks) h) [
      | inl a ↦ omega (arith, below c ks d a)
      | inr b ↦ omega (arith, all_at c d ks b)
    ]

nearest_first_ordered : (c : List ℕ) (ks : List (List ℕ)) (n : ℕ) → Ordered (Before 5) ks → Ordered (Precedes c) (nearest_first c ks n)
unfolding nearest_first
nearest_first_ordered c ks zero o = ordered_none
nearest_first_ordered c ks (suc d) o =
    joined (nearest_first c ks d) (concat_map (at_distance c d) ks) (nearest_first_ordered c ks d o) (same_distance c d ks o)
    (λ x y a b. inl (omega (arith, below c ks d a, all_at c d ks b)))

pub keys_ordered : KeysOrdered
unfolding keys_of
keys_ordered c lo hi = nearest_first_ordered c (in_range lo hi) (suc (farthest c lo hi)) (in_range_ordered lo hi)

-- ---- no key comes before itself, and none before the centre
pub precedes_another : PrecedesAnother
precedes_another c k (inl h) = omega arith
precedes_another c k (inr h) = let b = h.1.less in omega arith

squared_difference_none : (x : ℕ) → squared_difference x x ≡ 0
unfolding squared_difference
squared_difference_none x = let e : x - x + (x - x) ≡ 0 = omega arith in ap (λ (z : ℕ). z * z) e

squared_difference_same : (x y : ℕ) → squared_difference x y ≡ 0 → x ≡ y
unfolding squared_difference
squared_difference_same x y h = nothing (x - y + (y - x)) h (λ e. omega arith)
  where
    nothing : {A : Type 0} (d : ℕ) → d * d ≡ 0 → (d ≡ 0 → A) → A
    nothing zero h f = f refl
    nothing (suc d) h f = absurd (omega arith)

squared_distance_none : (c : List ℕ) → squared_distance c c ≡ 0
unfolding squared_distance
squared_distance_none c = omega (arith, squared_difference_none (get_or c 0 0), squared_difference_none (get_or c 1 0), squared_difference_none (get_or c 2 0), squared_difference_none (get_or c 3 0), squared_difference_none (get_or c 4 0))

squared_distance_same : (c x : List ℕ) (i : ℕ) → squared_distance c x ≡ 0 → i < 5 → get_or c i 0 ≡ get_or x i 0
unfolding squared_distance
squared_distance_same c x zero h l = squared_difference_same (get_or c 0 0) (get_or x 0 0) (omega arith)
squared_distance_same c x (suc zero) h l = squared_difference_same (get_or c 1 0) (get_or x 1 0) (omega arith)
squared_distance_same c x (suc (suc zero)) h l = squared_difference_same (get_or c 2 0) (get_or x 2 0) (omega arith)
squared_distance_same c x (suc (suc (suc zero))) h l = squared_difference_same (get_or c 3 0) (get_or x 3 0) (omega arith)
squared_distance_same c x (suc (suc (suc (suc zero)))) h l = squared_difference_same (get_or c 4 0) (get_or x 4 0) (omega arith)
squared_distance_same c x (suc (suc (suc (suc (suc i))))) h l = absurd (omega arith)

pub none_before : (c x : List ℕ) → Precedes c x c → ⊥
none_before c x (inl h) = omega (arith, squared_distance_none c)
none_before c x (inr h) = let b = h.1 in let l = b.less in omega (arith, squared_distance_same c x b.at (h.0 ∙ squared_distance_none c) b.early)
