-- Laws of thinning: the kept list grows place by place. Assumes nothing.
use mathlib.Core.Path.{◌≡◌, refl, sym, ap, ap₂, ◌∙◌}
use Prim.Native.Nat.{ℕ, zero, suc, ◌+◌, ◌-◌, ◌≤◌, ◌<◌}
use native.Mathlib.Omega.{arith}
use native.Mathlib.Numerals.{add-one}
use mathlib.Core.Bool.{true, false, cond}
use mathlib.Core.List.{List, [], ◌∷◌, ◌++◌, map, append_assoc, append-nil}
use native.Mathlib.Nat.{zero-add, suc-add}
use lib.ListN.{length, take, set, length-append, length-set}
use lib.Seq.{take-suc-set, take-append_seam, take_all}
use lib.Ieee.{Float}
use Rattle.preprocess.specs.declared.brightness_list.Place.{Place}
use Rattle.preprocess.specs.BrightnessList.{place_of}
use Rattle.thinning.specs.KeptList.{thinned, kept_of, Kept}
use Rattle.thinning.specs.Separation.{too_close}

-- ---- The kept list.
module _ (c : Float) (spot : ℕ → List Float) where
  thinned_grows : (i k : ℕ) → (rest : List ℕ) × (thinned c spot (k + i) ≡ thinned c spot i ++ rest)
  unfolding thinned
  thinned_grows i zero = ([], ap (thinned c spot) (zero-add i) ∙ sym (append-nil (thinned c spot i)))
  thinned_grows i (suc k) =
      let h = thinned_grows i k in
      let x = cond (too_close c (spot (k + i)) (map spot (thinned c spot (k + i)))) [] ((k + i) ∷ []) in
      (h.0 ++ x, ap (thinned c spot) (suc-add k i) ∙ ap (◌++ x) h.1 ∙ append_assoc (thinned c spot i) h.0 x)

  module _ (most : ℕ) where
    -- What the arrays hold after i places of the brightness list, of which m are kept.
    pub record Thinned (i m : ℕ) (places : List Place) (dirs : List (List Float)) : Type 0 where
      pub count : m ≡ length (thinned c spot i)
      pub few : m ≤ most
      pub places_are : take m places ≡ map place_of (thinned c spot i)
      pub dirs_are : take m dirs ≡ map spot (thinned c spot i)
      pub places_long : length places ≡ 64
      pub dirs_long : length dirs ≡ 64

    pub thin_none : (places : List Place) (dirs : List (List Float)) → length places ≡ 64 → length dirs ≡ 64 → Thinned 0 0 places dirs
    unfolding thinned
    thin_none places dirs p d = record { count = refl; few = omega arith; places_are = refl; dirs_are = refl; places_long = p; dirs_long = d }

    module _ (i m : ℕ) (places : List Place) (dirs : List (List Float)) (h : Thinned i m places dirs) where
      pub thin_skip : too_close c (spot i) (take m dirs) ≡ true → Thinned (suc i) m places dirs
      unfolding thinned
      thin_skip k =
          let e : thinned c spot (suc i) ≡ thinned c spot i = rw (← h.dirs_are, k) (append-nil (thinned c spot i)) in
          record {
            count = h.count ∙ ap length (sym e);
            few = h.few;
            places_are = h.places_are ∙ ap (map place_of) (sym e);
            dirs_are = h.dirs_are ∙ ap (map spot) (sym e);
            places_long = h.places_long;
            dirs_long = h.dirs_long;
          }

      module _ (k : too_close c (spot i) (take m dirs) ≡ false) where
        grown : thinned c spot (suc i) ≡ thinned c spot i ++ (i ∷ [])
        unfolding thinned
        grown = rw (← h.dirs_are, k)

        mapped : {A : Type 0} (f : ℕ → A) (xs ys : List ℕ) → map f (xs ++ ys) ≡ map f xs ++ map f ys
        mapped f [] ys = refl
        mapped f (x ∷ xs) ys = ap (f x ∷◌) (mapped f xs ys)

        pub thin_keep : m < most → most ≤ 64 → (v : List Float) → v ≡ spot i → Thinned (suc i) (suc m) (set places m (place_of i)) (set dirs m v)
        thin_keep l q v e =
            record {
              count = (let z : suc m ≡ length (thinned c spot i ++ (i ∷ [])) = omega (arith, h.count, length-append (thinned c spot i) (i ∷ [])) in z ∙ ap length (sym grown));
              few = omega arith;
              places_are = take-suc-set places m (place_of i) (omega (arith, h.places_long)) ∙ ap (◌++ (place_of i ∷ [])) h.places_are ∙ sym (ap (map place_of) grown ∙ mapped place_of (thinned c spot i) (i ∷ []));
              dirs_are = take-suc-set dirs m v (omega (arith, h.dirs_long)) ∙ ap₂ (λ xs y. xs ++ (y ∷ [])) h.dirs_are e ∙ sym (ap (map spot) grown ∙ mapped spot (thinned c spot i) (i ∷ []));
              places_long = length-set places m (place_of i) ∙ h.places_long;
              dirs_long = length-set dirs m v ∙ h.dirs_long;
            }

      -- The end of the loop, where all places were looked at (`thin_all`) or `most` of them are kept (`thin_cut`).
      pub thin_all : (n : ℕ) → i ≡ n → Kept c spot n most m places dirs
      unfolding kept_of
      thin_all n e =
          let k : kept_of c spot n most ≡ thinned c spot i = ap (λ x. take most (thinned c spot x)) (sym e) ∙ take_all most (thinned c spot i) (omega (arith, h.count, h.few)) in
          record {
            count = h.count ∙ ap length (sym k);
            places_are = h.places_are ∙ ap (map place_of) (sym k);
            dirs_are = h.dirs_are ∙ ap (map spot) (sym k);
            places_long = h.places_long;
            dirs_long = h.dirs_long;
          }

      pub thin_cut : (n : ℕ) → i ≤ n → most ≤ m → Kept c spot n most m places dirs
      unfolding kept_of
      thin_cut n l q =
          let g = thinned_grows i (n - i) in
          let e : n - i + i ≡ n = omega arith in
          let w : most ≡ length (thinned c spot i) = omega (arith, h.count, h.few) in
          let k : kept_of c spot n most ≡ thinned c spot i = ap (λ x. take most (thinned c spot x)) (sym e) ∙ ap (take most) g.1 ∙ ap (λ x. take x (thinned c spot i ++ g.0)) w ∙ take-append_seam (thinned c spot i) g.0 in
          record {
            count = h.count ∙ ap length (sym k);
            places_are = h.places_are ∙ ap (map place_of) (sym k);
            dirs_are = h.dirs_are ∙ ap (map spot) (sym k);
            places_long = h.places_long;
            dirs_long = h.dirs_long;
          }

-- ---- What the loop keeps: the directions in the columns are those of the kept places.
module _ (c : Float) (spot : ℕ → List Float) (most : ℕ) where
  pub record Held (i : ℕ) (places : List Place) (dirs cols : List (List Float)) : Type 0 where
    pub thinned : Thinned c spot most i (length cols) places dirs
    pub cols_are : cols ≡ take (length cols) dirs

  pub held_none : (places : List Place) (dirs cols : List (List Float)) → length places ≡ 64 → length dirs ≡ 64 → cols ≡ [] → Held 0 places dirs cols
  held_none places dirs cols p d e = rw e (record { thinned = thin_none c spot most places dirs p d; cols_are = refl })

  module _ (i : ℕ) (places places' : List Place) (dirs dirs' cols cols' : List (List Float)) (h : Held i places dirs cols) where
    pub held_skip : too_close c (spot i) cols ≡ true → places' ≡ places → dirs' ≡ dirs → cols' ≡ cols → Held (i + 1) places' dirs' cols'
    held_skip k p q r =
        rw (p, q, r, add-one)
        (record {
          thinned = thin_skip c spot most i (length cols) places dirs h.thinned (ap (too_close c (spot i)) (sym h.cols_are) ∙ k);
          cols_are = h.cols_are;
        })

    pub held_keep : (m : ℕ) (v : List Float) → m ≡ length cols → v ≡ spot i → too_close c (spot i) cols ≡ false → m < most → most ≤ 64
        → places' ≡ set places m (place_of i) → dirs' ≡ set dirs m v → cols' ≡ cols ++ (v ∷ []) → Held (i + 1) places' dirs' cols'
    held_keep m v n e k l f p q r =
        let long : length (cols ++ (v ∷ [])) ≡ suc (length cols) = omega (arith, length-append cols (v ∷ [])) in
        rw (p, q, r, n, add-one)
        (record {
          thinned = rw long (thin_keep c spot most i (length cols) places dirs h.thinned (ap (too_close c (spot i)) (sym h.cols_are) ∙ k) (omega arith) f v e);
          cols_are = rw (long, take-suc-set dirs (length cols) v (omega (arith, h.thinned.dirs_long)), ← h.cols_are) refl;
        })
