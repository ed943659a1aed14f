-- The array of directions and angles: looking angles up and storing them, loading directions, clearing angles. Assumes nothing.
use mathlib.Core.Path.{◌≡◌, refl, sym, ap, ap₂, ◌∙◌, subst}
use Prim.Native.Nat.{ℕ, suc, ◌+◌, ◌-◌, ◌*◌, ◌≤◌, ◌<◌}
use native.Mathlib.Omega.{arith}
use mathlib.Core.Bool.{Bool, true, false, cond}
use mathlib.Core.List.{List, [], ◌++◌}
use mathlib.Core.Logic.{◌⊎◌, inl, inr}
use lib.IntN.{pos}
use borrow.Rule.Slice.PartMut.{put_mid, post_of}
use lib.ListN.{length, get_or, set, take, drop, replicate, length-set, length-drop, length-replicate, get_or-replicate}
use lib.Seq.{get_or-set_same, get_or-set_other}
use lib.Ieee.{Float, nan, fin, lt}
use Rattle.std.proofs.lemmas.List.{get_or_append_left, get_or-append_right, get_or-take, length-take-le}
use Rattle.numeric.proofs.Order.{lt_or_le}
use Rattle.numeric.specs.Value.{zero32}
use Rattle.combinations.specs.Combinations.{Rising}
use Rattle.combinations.specs.declared.Combination.{Combination}
use Rattle.pattern.specs.Edges.{angle, angles}
use Rattle.pattern.proofs.ListsEqual.{same_three, same_six}
use Rattle.search_cache.specs.AngleArray.{row_at, three_of, direction_at, unset, angle_in, six_in, AnglesCached, four_at, known_or, angles_beside, SameDirections}
use Rattle.search_cache.proofs.AnglePlaces.{row_after, place_inside, same_place}

-- A store behind a direction leaves that direction as it was.
pub store_behind : (m : List Float) (s k : ℕ) (x : Float) → 3 * k + 2 < s → direction_at (set m s x) k ≡ direction_at m k
unfolding direction_at
store_behind m s k x l =
    same_three (get_or-set_other m s (3 * k) x nan (λ e. omega arith)) (get_or-set_other m s (3 * k + 1) x nan (λ e. omega arith)) (get_or-set_other m s (3 * k + 2) x nan (λ e. omega arith))

same_or_not : (x y : ℕ) → (x ≡ y) ⊎ (x ≡ y → ⊥)
same_or_not x y = elim (lt_or_le x y) [
  | inl p ↦ inr (λ e. omega arith)
  | inr p ↦ elim (lt_or_le y x) [ inl q ↦ inr (λ e. omega arith) | inr q ↦ inl (omega arith) ]
]

-- ---- Angles are looked up and stored.
-- Where the angles of n positions are cached, so are those of fewer positions.
pub cached_fewer : (n k : ℕ) (m : List Float) → k ≤ n → AnglesCached n m → AnglesCached k m
cached_fewer n k m l h = record { few = omega (arith, h.few); each = λ i j a b. h.each i j a (omega arith) }

unset_below : (x : Float) → x ≡ unset → lt x (fin false 0 (pos 0)) ≡ true
unfolding lt
unset_below x e = rw e

-- A cached angle that is not below 0 is the angle of its two directions.
pub known_right : (n : ℕ) (m : List Float) (i j : ℕ) → AnglesCached n m → i < j → j < n → lt (angle_in m i j) (fin false 0 (pos 0)) ≡ false → angle_in m i j ≡ angle (direction_at m i) (direction_at m j)
known_right n m i j h l p f = elim (h.each i j l p) [
  | inl e ↦ absurd (let z : ◌≡◌ {A = Bool} true false = sym (unset_below (angle_in m i j) e) ∙ f in let y : ◌≡◌ {A = ℕ} 0 1 = cc in omega arith)
  | inr e ↦ e
]

-- Six cached angles that are not below 0 are the angles of the four directions.
pub six_right : (m : List Float) (q : Combination) → Rising 64 q → AnglesCached (suc q.d) m → (v : List Float) → v ≡ six_in m q → ((k : ℕ) → k < 6 → lt (get_or v k nan) zero32 ≡ false) → v ≡ angles (four_at m q)
unfolding angles
six_right m q r h v e above =
    e
    ∙ same_six
    (right q.a q.b (omega (arith, r.ab)) (omega (arith, r.bc, r.cd)) (not_below 0 (omega arith)))
    (right q.a q.c (omega (arith, r.ab, r.bc)) (omega (arith, r.cd)) (not_below 1 (omega arith)))
    (right q.a q.d (omega (arith, r.ab, r.bc, r.cd)) (omega arith) (not_below 2 (omega arith)))
    (right q.b q.c (omega (arith, r.bc)) (omega (arith, r.cd)) (not_below 3 (omega arith)))
    (right q.b q.d (omega (arith, r.bc, r.cd)) (omega arith) (not_below 4 (omega arith)))
    (right q.c q.d (omega (arith, r.cd)) (omega arith) (not_below 5 (omega arith)))
  where
    right : (i j : ℕ) → i < j → j < suc q.d → lt (angle_in m i j) zero32 ≡ false → angle_in m i j ≡ angle (direction_at m i) (direction_at m j)
    right i j = known_right (suc q.d) m i j h

    not_below : (k : ℕ) → k < 6 → lt (get_or (six_in m q) k nan) zero32 ≡ false
    not_below k l = ap (λ (w : List Float). lt (get_or w k nan) zero32) (sym e) ∙ above k l

-- A choice between two equal values.
either : (b : Bool) (x y : Float) → y ≡ x → cond b x y ≡ x
either true x y e = refl
either false x y e = e

-- What is cached for two positions, or worked out where that is unset, is the angle of their directions.
beside_right : (n : ℕ) (m : List Float) (i j : ℕ) → AnglesCached n m → i < j → j < n → known_or (angle_in m i j) (direction_at m i) (direction_at m j) ≡ angle (direction_at m i) (direction_at m j)
unfolding known_or
beside_right n m i j h l p = elim (h.each i j l p) [
  | inl e ↦ ap (λ (b : Bool). cond b (angle (direction_at m i) (direction_at m j)) (angle_in m i j)) (unset_below (angle_in m i j) e)
  | inr e ↦ either (lt (angle_in m i j) zero32) (angle (direction_at m i) (direction_at m j)) (angle_in m i j) e
]

-- What is cached for the six pairs of four positions, or worked out where it is unset, is the angle of their directions.
pub six_beside : (m : List Float) (q : Combination) → Rising 64 q → AnglesCached (suc q.d) m → angles_beside (four_at m q) (six_in m q) ≡ angles (four_at m q)
unfolding angles angles_beside
six_beside m q r h =
    same_six
    (right q.a q.b (omega (arith, r.ab)) (omega (arith, r.bc, r.cd)))
    (right q.a q.c (omega (arith, r.ab, r.bc)) (omega (arith, r.cd)))
    (right q.a q.d (omega (arith, r.ab, r.bc, r.cd)) (omega arith))
    (right q.b q.c (omega (arith, r.bc)) (omega (arith, r.cd)))
    (right q.b q.d (omega (arith, r.bc, r.cd)) (omega arith))
    (right q.c q.d (omega (arith, r.cd)) (omega arith))
  where
    right : (i j : ℕ) → i < j → j < suc q.d → known_or (angle_in m i j) (direction_at m i) (direction_at m j) ≡ angle (direction_at m i) (direction_at m j)
    right i j = beside_right (suc q.d) m i j h

pub still_same : (m : List Float) → SameDirections m m
still_same m = record { directions = λ k p. refl; cached = λ n h. h }

pub still_on : (m m' m'' : List Float) → SameDirections m m' → SameDirections m' m'' → SameDirections m m''
still_on m m' m'' s t = record { directions = λ k p. t.directions k p ∙ s.directions k p; cached = λ n h. t.cached n (s.cached n h) }

-- the angle of two directions that stayed
pub still_angle : (m m' : List Float) (i j : ℕ) → SameDirections m m' → i < 64 → j < 64 → angle (direction_at m' i) (direction_at m' j) ≡ angle (direction_at m i) (direction_at m j)
still_angle m m' i j s l p = ap₂ angle (s.directions i l) (s.directions j p)

-- What the next store of an angle requires, after other stores.
pub asked_again : (m m' : List Float) (i j : ℕ) (w : Float) → SameDirections m m' → i < j → j < 64 → w ≡ angle (direction_at m i) (direction_at m j)
    → (i < j) × (j < 64) × (w ≡ angle (direction_at m' i) (direction_at m' j))
asked_again m m' i j w s l p e = (l, p, e ∙ sym (still_angle m m' i j s (omega arith) p))

-- The six angles that `edge_angles` gives from what is cached are those of the four directions.
pub six_are : (m : List Float) (q : Combination) → Rising 64 q → AnglesCached (suc q.d) m → (v : List (List Float)) (known six : List Float) → v ≡ four_at m q → known ≡ six_in m q → six ≡ angles_beside v known → six ≡ angles (four_at m q)
six_are m q r h v known six a b c = c ∙ ap₂ angles_beside a b ∙ six_beside m q r h

-- An angle is stored at its index; w is the angle of positions i and j.
module _ (m : List Float) (i j : ℕ) (w : Float) (l : i < j) (p : j < 64) (long : length m ≡ 2208) (right : w ≡ angle (direction_at m i) (direction_at m j)) where
  abbrev kept : List Float
  kept = set m (row_at j + i) w

  stays : (k : ℕ) → k < 64 → direction_at kept k ≡ direction_at m k
  stays k q = store_behind m (row_at j + i) k w (omega arith)

  angle_stays : (a b : ℕ) → a < 64 → b < 64 → angle (direction_at kept a) (direction_at kept b) ≡ angle (direction_at m a) (direction_at m b)
  angle_stays a b q r = ap₂ angle (stays a q) (stays b r)

  pub still_stored : SameDirections m kept
  still_stored =
      record {
        directions = stays;
        cached = λ n h. record {
          few = h.few;
          each = λ a b q r. elim (same_or_not (row_at b + a) (row_at j + i)) [
            | inl e ↦
                let x = same_place a b i j q l e in
                inr (ap (λ z. get_or kept z nan) e ∙ get_or-set_same m (row_at j + i) w nan (omega (arith, place_inside i j l p, long)) ∙ right ∙ ap₂ (λ y z. angle (direction_at m y) (direction_at m z)) (sym x.1) (sym x.0) ∙ sym (angle_stays a b (omega (arith, h.few)) (omega (arith, h.few))))
            | inr e ↦
                let o = get_or-set_other m (row_at j + i) (row_at b + a) w nan e in
                elim (h.each a b q r) [
                  | inl u ↦ inl (o ∙ u)
                  | inr u ↦ inr (o ∙ u ∙ sym (angle_stays a b (omega (arith, h.few)) (omega (arith, h.few))))
                ]
          ];
        };
      }

-- ---- Directions are loaded.
-- The first k directions are loaded.
pub record Put (dirs : List (List Float)) (k : ℕ) (m : List Float) : Type 0 where
  pub each : (x : ℕ) → x < k → direction_at m x ≡ three_of (get_or dirs x [])
  pub long : length m ≡ 2208

pub put_none : (dirs : List (List Float)) (m : List Float) → length m ≡ 2208 → Put dirs 0 m
put_none dirs m l = record { each = λ x p. absurd (omega arith); long = l }

module _ (dirs : List (List Float)) (k : ℕ) (m : List Float) (v : List Float) (few : k < 64) (is : v ≡ get_or dirs k []) (s : Put dirs k m) where
  abbrev first : List Float
  first = set m (3 * k) (get_or v 0 nan)

  abbrev second : List Float
  second = set first (3 * k + 1) (get_or v 1 nan)

  abbrev third : List Float
  third = set second (3 * k + 2) (get_or v 2 nan)

  first_long : length first ≡ 2208
  first_long = length-set m (3 * k) (get_or v 0 nan) ∙ s.long

  second_long : length second ≡ 2208
  second_long = length-set first (3 * k + 1) (get_or v 1 nan) ∙ first_long

  before : (x : ℕ) → x < k → direction_at third x ≡ direction_at m x
  before x l =
      store_behind second (3 * k + 2) x (get_or v 2 nan) (omega arith)
      ∙ store_behind first (3 * k + 1) x (get_or v 1 nan) (omega arith)
      ∙ store_behind m (3 * k) x (get_or v 0 nan) (omega arith)

  here : direction_at third k ≡ three_of (get_or dirs k [])
  unfolding direction_at
  here =
      same_three
      (get_or-set_other second (3 * k + 2) (3 * k) (get_or v 2 nan) nan (λ e. omega arith) ∙ get_or-set_other first (3 * k + 1) (3 * k) (get_or v 1 nan) nan (λ e. omega arith) ∙ get_or-set_same m (3 * k) (get_or v 0 nan) nan (omega (arith, s.long)) ∙ ap (λ z. get_or z 0 nan) is)
      (get_or-set_other second (3 * k + 2) (3 * k + 1) (get_or v 2 nan) nan (λ e. omega arith) ∙ get_or-set_same first (3 * k + 1) (get_or v 1 nan) nan (omega (arith, first_long)) ∙ ap (λ z. get_or z 1 nan) is)
      (get_or-set_same second (3 * k + 2) (get_or v 2 nan) nan (omega (arith, second_long)) ∙ ap (λ z. get_or z 2 nan) is)

  pub put_more : Put dirs (k + 1) third
  put_more =
      record {
        each = λ x l. elim (lt_or_le x k) [
          | inl p ↦ before x p ∙ s.each x p
          | inr p ↦ let e : x ≡ k = omega arith in subst (λ z. direction_at third z ≡ three_of (get_or dirs z [])) (sym e) here
        ];
        long = length-set second (3 * k + 2) (get_or v 2 nan) ∙ second_long;
      }

-- ---- cleared
-- from the first angle up to place s none is worked out; the directions are as they were
pub record Forgot (m₀ : List Float) (s : ℕ) (m : List Float) : Type 0 where
  pub each : (x : ℕ) → 192 ≤ x → x < s → get_or m x nan ≡ unset
  pub directions : (k : ℕ) → k < 64 → direction_at m k ≡ direction_at m₀ k

-- The places from 192 up to e are written at once.
pub angles_long : (m : List Float) (e : ℕ) → length m ≡ 2208 → e ≤ 2208 → length (take (e - 192) (drop 192 m)) ≡ e - 192
angles_long m e l q = length-take-le (e - 192) (drop 192 m) (omega (arith, length-drop 192 m))

module _ (m ys : List Float) (e : ℕ) (l : length m ≡ 2208) (p : 192 ≤ e) (q : e ≤ 2208) (is : ys ≡ replicate (e - 192) unset) where
  front : length (take 192 m) ≡ 192
  front = length-take-le 192 m (omega arith)

  many : length ys ≡ e - 192
  many = ap length is ∙ length-replicate (e - 192) unset

  place_before : (z : ℕ) → z < 192 → get_or (put_mid 192 (e - 192) m ys) z nan ≡ get_or m z nan
  place_before z h = get_or_append_left (take 192 m) (ys ++ post_of 192 (e - 192) m) nan z (omega (arith, front)) ∙ get_or-take 192 m z nan h

  place_in : (z : ℕ) → 192 ≤ z → z < e → get_or (put_mid 192 (e - 192) m ys) z nan ≡ unset
  place_in z h k =
      get_or-append_right (take 192 m) (ys ++ post_of 192 (e - 192) m) 192 z nan front h
      ∙ get_or_append_left ys (post_of 192 (e - 192) m) nan (z - 192) (omega (arith, many))
      ∙ ap (λ (w : List Float). get_or w (z - 192) nan) is
      ∙ get_or-replicate (e - 192) (z - 192) unset nan (omega arith)

  pub forgot_all : Forgot m e (put_mid 192 (e - 192) m ys)
  unfolding direction_at
  forgot_all =
      record {
        each = place_in;
        directions = λ k h. same_three (place_before (3 * k) (omega arith)) (place_before (3 * k + 1) (omega arith)) (place_before (3 * k + 2) (omega arith));
      }

pub forgot_cached : (m₀ : List Float) (s n : ℕ) (m : List Float) → n ≤ 64 → row_at n ≤ s → Forgot m₀ s m → AnglesCached n m
forgot_cached m₀ s n m l p f = record { few = l; each = λ i j a b. inl (f.each (row_at j + i) (omega arith) (let r = row_after j n b in omega (arith, r))) }
