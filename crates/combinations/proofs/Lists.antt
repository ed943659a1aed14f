-- Laws of lists that are joined from one list for each element: what holds of every element, their order, what is in them, how long they are,
-- and what a successor enumerates. Assumes nothing.
use mathlib.Core.Path.{◌≡◌, sym, ◌∙◌, ap, subst}
use Prim.Native.Nat.{ℕ, zero, suc, ◌+◌, ◌-◌, ◌*◌, ◌≤◌, ◌<◌}
use native.Mathlib.Omega.{arith}
use native.Mathlib.Nat.{suc-mul}
use native.Mathlib.Decide.{dec_le}
use mathlib.Core.List.{List, [], ◌∷◌, ◌++◌, append_assoc}
use Rattle.std.specs.Prelude.{Option, Some}
use lib.ListN.{length, take, length-append}
use Rattle.combinations.specs.Lists.{each, span, upto, All, Ordered, In, Follows, first_of}

module _ {A : Type 0} (P : A → Type 0) where
  pub all_append : (xs ys : List A) → All P xs → All P ys → All P (xs ++ ys)
  all_append [] ys p q = q
  all_append (x ∷ xs) ys p q = (p.0, all_append xs ys p.1 q)

  pub all_take : (n : ℕ) (xs : List A) → All P xs → All P (take n xs)
  all_take zero xs p = tt
  all_take (suc n) [] p = tt
  all_take (suc n) (x ∷ xs) p = (p.0, all_take n xs p.1)

  -- Where P holds of every element, so does what follows from P.
  pub all_weaken : {Q : A → Type 0} → ((x : A) → P x → Q x) → (xs : List A) → All P xs → All Q xs
  all_weaken h [] p = tt
  all_weaken h (x ∷ xs) p = (h x p.0, all_weaken h xs p.1)

  pub all_each : {B : Type 0} (Q : B → Type 0) (xs : List B) (f : B → List A) → ((x : B) → Q x → All P (f x)) → All Q xs → All P (each xs f)
  unfolding each
  all_each Q [] f h q = tt
  all_each Q (x ∷ xs) f h q = all_append (f x) (each xs f) (h x q.0) (all_each Q xs f h q.1)

  pub all_span : (m lo : ℕ) (f : ℕ → List A) → ((x : ℕ) → lo ≤ x → x < lo + m → All P (f x)) → All P (each (span lo m) f)
  unfolding each span
  all_span zero lo f h = tt
  all_span (suc m) lo f h =
      all_append (f lo) (each (span (suc lo) m) f) (h lo (omega arith) (omega arith))
      (all_span m (suc lo) f λ x p q. h x (omega arith) (omega arith))

  pub all_upto : (lo hi : ℕ) (f : ℕ → List A) → ((x : ℕ) → lo ≤ x → x < hi → All P (f x)) → All P (each (upto lo hi) f)
  unfolding upto
  all_upto lo hi f h = all_span (hi - lo) lo f λ x p q. h x p (omega arith)

-- Ordered lists that are joined.
module _ {A : Type 0} (R : A → A → Type 0) where
  pub ordered_append : (xs ys : List A) → Ordered R xs → Ordered R ys → All (λ x. All (R x) ys) xs → Ordered R (xs ++ ys)
  ordered_append [] ys p q h = q
  ordered_append (x ∷ xs) ys p q h = (all_append (R x) xs ys p.0 h.0, ordered_append xs ys p.1 q h.1)

  -- Each list is ordered, its elements have P of its number, and an element with P of a smaller number comes before one with P of a larger number.
  pub ordered_span : (P : ℕ → A → Type 0) (m lo : ℕ) (f : ℕ → List A)
      → ((i : ℕ) → All (P i) (f i))
      → ((i : ℕ) → Ordered R (f i))
      → ((i j : ℕ) (x y : A) → i < j → P i x → P j y → R x y)
      → Ordered R (each (span lo m) f)
  unfolding each span
  ordered_span P zero lo f a o r = tt
  ordered_span P (suc m) lo f a o r =
      ordered_append (f lo) (each (span (suc lo) m) f) (o lo) (ordered_span P m (suc lo) f a o r)
      (all_weaken (P lo) (λ x p. all_span (R x) m (suc lo) f λ j l _. all_weaken (P j) (λ y q. r lo j x y l p q) (f j) (a j)) (f lo) (a lo))

  pub ordered_upto : (P : ℕ → A → Type 0) (lo hi : ℕ) (f : ℕ → List A)
      → ((i : ℕ) → All (P i) (f i))
      → ((i : ℕ) → Ordered R (f i))
      → ((i j : ℕ) (x y : A) → i < j → P i x → P j y → R x y)
      → Ordered R (each (upto lo hi) f)
  unfolding upto
  ordered_upto P lo hi f a o r = ordered_span P (hi - lo) lo f a o r

module _ {A : Type 0} (x : A) where
  pub in_left : (xs ys : List A) → In x xs → In x (xs ++ ys)
  in_left xs ys m = (m.0, m.1 ++ ys, ap (◌++ ys) m.2 ∙ append_assoc m.0 (x ∷ m.1) ys)

  pub in_right : (xs ys : List A) → In x ys → In x (xs ++ ys)
  in_right xs ys m = (xs ++ m.0, m.1, ap (xs ++◌) m.2 ∙ sym (append_assoc xs m.0 (x ∷ m.1)))

  pub in_span : (m lo : ℕ) (f : ℕ → List A) (n : ℕ) → lo ≤ n → n < lo + m → In x (f n) → In x (each (span lo m) f)
  unfolding each span
  in_span zero lo f n p q h = absurd (omega arith)
  in_span (suc m) lo f n p q h = by (dec_le n lo) (λ z. in_span m (suc lo) f n z (omega arith) h)
    where
      by : Dec (n ≤ lo) → (lo < n → In x (each (span (suc lo) m) f)) → In x (f lo ++ each (span (suc lo) m) f)
      by (yes z) ih = in_left (f lo) _ (let e : n ≡ lo = omega arith in subst (λ y. In x (f y)) e h)
      by (no z) ih = in_right (f lo) _ (ih (omega arith))

  pub in_upto : (lo hi : ℕ) (f : ℕ → List A) (n : ℕ) → lo ≤ n → n < hi → In x (f n) → In x (each (upto lo hi) f)
  unfolding upto
  in_upto lo hi f n p q h = in_span (hi - lo) lo f n p (omega arith) h

-- Where each element gives a list of at most `most` elements, the joined list is at most that many times as long.
pub length_each : {A B : Type 0} (P : A → Type 0) (xs : List A) (f : A → List B) (most : ℕ) → ((x : A) → P x → length (f x) ≤ most) → All P xs → length (each xs f) ≤ length xs * most
unfolding each
length_each P [] f most h p = omega arith
length_each P (x ∷ xs) f most h p =
    omega (arith, length-append (f x) (each xs f), h x p.0, length_each P xs f most h p.1, suc-mul (length xs) most)

-- What holds of every element holds of those after an element.
pub all_after : {A : Type 0} (P : A → Type 0) (pre : List A) (x : A) (post : List A) → All P (pre ++ x ∷ post) → All P post
all_after P [] x post h = h.1
all_after P (y ∷ pre) x post h = all_after P pre x post h.1

-- An enumeration begins with the list's first element, and from an element on it enumerates the rest.
pub follows_is_first : {A : Type 0} (next : A → Option A) (xs : List A) (o : Option A) → Follows next o xs → o ≡ first_of xs
follows_is_first next [] o h = h
follows_is_first next (x ∷ xs) o h = h.0

pub follows_first : {A : Type 0} (P : A → Type 0) (next : A → Option A) (xs : List A) (o : Option A) (x : A) → Follows next o xs → All P xs → o ≡ Some x → P x
follows_first P next [] o x f h e = absurd (let z : ◌≡◌ {A = ℕ} 0 1 = cc in omega arith)
follows_first P next (y ∷ xs) o x f h e = let z : y ≡ x = cc f.0 in subst P z h.0

pub follows_mid : {A : Type 0} (next : A → Option A) (pre : List A) (x : A) (post : List A) (o : Option A) → Follows next o (pre ++ x ∷ post) → Follows next (next x) post
follows_mid next [] x post o h = h.1
follows_mid next (y ∷ pre) x post o h = follows_mid next pre x post (next y) h.1
