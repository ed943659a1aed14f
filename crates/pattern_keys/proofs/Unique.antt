-- The list of keys is the only one that document 01's sentence describes: in that order, and with those keys. Assumes nothing.
use mathlib.Core.Path.{◌≡◌, refl, sym, ap, ◌∙◌, subst}
use mathlib.Core.Logic.{◌⊎◌, inl, inr}
use Prim.Native.Nat.{ℕ}
use native.Mathlib.Omega.{arith}
use mathlib.Core.List.{List, [], ◌∷◌}
use lib.ListN.{get_or}
use Rattle.numeric.proofs.Order.{lt_or_le}
use Rattle.pattern_keys.specs.Keys.{keys_of}
use Rattle.pattern_keys.specs.Listed.{Has, here, there, Before, Precedes, Ordered, ordered_none, ordered}
use Rattle.pattern_keys.specs.KeysClaims.{KeysUnique}
use Rattle.pattern_keys.proofs.KeysExact.{has_none, keys_only, keys_all}
use Rattle.pattern_keys.proofs.ByDistance.{keys_ordered}

-- ---- of two keys at most one comes before the other
before_once : (n : ℕ) (k m : List ℕ) → Before n k m → Before n m k → ⊥
before_once n k m p q =
    let a = p.less in
    let b = q.less in
    elim (lt_or_le p.at q.at) [
      | inl h ↦ omega (arith, q.same p.at h)
      | inr h ↦ elim (lt_or_le q.at p.at) [
        | inl g ↦ omega (arith, p.same q.at g)
        | inr g ↦ let e : p.at ≡ q.at = omega arith in omega (arith, ap (λ (i : ℕ). get_or k i 0) e, ap (λ (i : ℕ). get_or m i 0) e)
      ]
    ]

precedes_once : (c k m : List ℕ) → Precedes c k m → Precedes c m k → ⊥
precedes_once c k m (inl p) (inl q) = omega arith
precedes_once c k m (inl p) (inr q) = omega (arith, q.0)
precedes_once c k m (inr p) (inl q) = omega (arith, p.0)
precedes_once c k m (inr p) (inr q) = before_once 5 k m p.1 q.1

-- ---- two lists in one such order with the same keys are equal
has_cases : {k : List ℕ} (y : List ℕ) (m : List (List ℕ)) → Has k (y ∷ m) → (k ≡ y) ⊎ Has k m
has_cases y m (here t) = inl refl
has_cases y m (there z p) = inr p

module _ (R : List ℕ → List ℕ → Type 0) (once : (k m : List ℕ) → R k m → R m k → ⊥) where
  first_same : (x y : List ℕ) (l m : List (List ℕ)) → ((z : List ℕ) → Has z l → R x z) → ((z : List ℕ) → Has z m → R y z) → (x ≡ y) ⊎ Has x m → (y ≡ x) ⊎ Has y l → x ≡ y
  first_same x y l m f g (inl e) h = e
  first_same x y l m f g (inr p) (inl e) = sym e
  first_same x y l m f g (inr p) (inr q) = absurd (once x y (f y q) (g x p))

  -- A key after the first of one list is after the first of the other.
  later : (x y : List ℕ) (l m : List (List ℕ)) → x ≡ y → ((z : List ℕ) → Has z l → R x z) → ((z : List ℕ) → Has z (x ∷ l) → Has z (y ∷ m)) → (k : List ℕ) → Has k l → Has k m
  later x y l m e f s k h =
      elim (has_cases y m (s k (there x h))) [
        | inl d ↦ let r = subst (λ (z : List ℕ). R x z) (d ∙ sym e) (f k h) in absurd (once x x r r)
        | inr p ↦ p
      ]

  unique : (l m : List (List ℕ)) → Ordered R l → Ordered R m → ((z : List ℕ) → Has z l → Has z m) → ((z : List ℕ) → Has z m → Has z l) → l ≡ m
  unique [] [] ordered_none ordered_none s t = refl
  unique [] (y ∷ m) ordered_none p s t = absurd (has_none (t y (here m)))
  unique (x ∷ l) [] o ordered_none s t = absurd (has_none (s x (here l)))
  unique (x ∷ l) (y ∷ m) (ordered f o) (ordered g p) s t =
      let e = first_same x y l m f g (has_cases y m (s x (here l))) (has_cases x l (t y (here m))) in
      let q = unique l m o p (later x y l m e f s) (later y x m l (sym e) g t) in
      ap (λ (z : List ℕ). z ∷ l) e ∙ ap (λ (n : List (List ℕ)). y ∷ n) q

pub keys_unique : KeysUnique
keys_unique c lo hi l o s t =
    unique (Precedes c) (precedes_once c) l (keys_of c lo hi) o (keys_ordered c lo hi) (λ k h. keys_all c lo hi k (s k h)) (λ k h. t k (keys_only c lo hi k h))
