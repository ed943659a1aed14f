-- What an array's `map` and `array::from_fn` return, where each call of the closure gives what a function gives. Assumes nothing.
use Rattle.std.proofs.Common.{◌≡◌, ℕ, zero, suc, ◌+◌, ◌<◌, ◌≤◌, List, [], ◌∷◌, length, get_or, map, inl, inr, refl, sym, ap, subst, ◌∙◌, arith}
use native.Mathlib.Nat.{eq-or-lt_of_le}
use Rattle.std.specs.Fn.{Called}
use Rattle.std.specs.Array.{IsMapOf, MapsFrom, IsFromFnResult, IsFromFnResultFrom}
use Rattle.std.specs.List.{range_with_len}
use Rattle.std.proofs.Math.ListN.{get_or-map}
use Rattle.std.proofs.lemmas.List.{ext_get_or, get_or_default, length-map}
use Rattle.std.proofs.lemmas.List.FromFn.{fill_by_all}
use denote.Param.Members.{Mut}

module _ {F A B : Type 0} (g : Mut F (A × Unit {0}) B) (h : A → B) (f : F) (each : (x : A) (y : B) (q : F) → Called g f (x, tt) y q → (q ≡ f) × (y ≡ h x)) where
  -- Each element of ys from i on is what h gives for that of xs.
  along : (xs : List A) (ys : List B) (i n : ℕ) → MapsFrom g f xs ys i n → (j : ℕ) (d : A) (e : B) → i ≤ j → j < i + n → get_or ys j e ≡ h (get_or xs j d)
  along xs ys i zero m j d e low high = absurd (omega arith)
  along xs ys i (suc n) (q, x, y, at_x, at_y, called, m) j d e low high =
      let step = each x y q called in
      let later : MapsFrom g f xs ys (i + 1) n = subst (λ (p : F). MapsFrom g p xs ys (i + 1) n) step.0 m in
      elim (eq-or-lt_of_le low) [
        | inl k ↦ subst (λ (p : ℕ). get_or ys p e ≡ h (get_or xs p d)) k (at_y.1 e ∙ step.1 ∙ ap h (sym (at_x.1 d)))
        | inr k ↦ along xs ys (i + 1) n later j d e (omega arith) (omega arith)
      ]

  pub mapped : (xs : List A) (ys : List B) (n : ℕ) → IsMapOf g f xs ys n → length xs ≡ n → ys ≡ map h xs
  mapped [] [] n m long = refl
  mapped [] (y ∷ l) n m long = absurd (omega (arith, m.long))
  mapped (x ∷ r) [] n m long = absurd (omega (arith, m.long))
  mapped (x ∷ r) (y ∷ l) n m long =
      ext_get_or y (y ∷ l) (map h (x ∷ r)) (omega (arith, m.long, length-map (x ∷ r) h)) (λ i k. at i (omega (arith, m.long)))
    where
      at : (i : ℕ) → i < n → get_or (y ∷ l) i y ≡ get_or (map h (x ∷ r)) i y
      at i k =
          along (x ∷ r) (y ∷ l) 0 n m.each i x y (omega arith) (omega arith)
          ∙ sym (get_or_default (map h (x ∷ r)) i y (h x) (omega (arith, length-map (x ∷ r) h)) ∙ get_or-map h (x ∷ r) i x)

module _ {F B : Type 0} (g : Mut F (ℕ × Unit {0}) B) (h : ℕ → B) (f : F) (each : (i : ℕ) (y : B) (q : F) → Called g f (i, tt) y q → (q ≡ f) × (y ≡ h i)) where
  along_indices : (ys : List B) (i n : ℕ) → IsFromFnResultFrom g f ys i n → (j : ℕ) (e : B) → i ≤ j → j < i + n → get_or ys j e ≡ h j
  along_indices ys i zero m j e low high = absurd (omega arith)
  along_indices ys i (suc n) (q, y, at_y, called, m) j e low high =
      let step = each i y q called in
      let later : IsFromFnResultFrom g f ys (i + 1) n = subst (λ (p : F). IsFromFnResultFrom g p ys (i + 1) n) step.0 m in
      elim (eq-or-lt_of_le low) [
        | inl k ↦ subst (λ (p : ℕ). get_or ys p e ≡ h p) k (at_y.1 e ∙ step.1)
        | inr k ↦ along_indices ys (i + 1) n later j e (omega arith) (omega arith)
      ]

  pub made : (ys : List B) (n : ℕ) → IsFromFnResult g f ys n → ys ≡ map h (range_with_len 0 n)
  made ys n m = fill_by_all h ys n (h 0) m.long (λ k l. along_indices ys 0 n m.each k (h 0) (omega arith) (omega arith))
