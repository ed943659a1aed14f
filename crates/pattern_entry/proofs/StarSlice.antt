-- Where every star of the slice is valid, a star is valid exactly if its index is inside the slice. Assumes nothing.
use Prim.Native.Nat.{ℕ, zero, suc, ◌+◌, ◌*◌, ◌%◌, ◌-◌, ◌≤◌}
use mathlib.Core.Path.{◌≡◌, refl, sym, ap, ap₂, ◌∙◌}
use mathlib.Core.Bool.{Bool, true, false, ◌&&◌}
use mathlib.Core.List.{List, [], ◌∷◌}
use native.Mathlib.Omega.{arith}
use borrow.Author.Tests.{lt-ltb, ltb-true, leb-true}
use lib.Dec.{leb, ltb, eqb}
use lib.ListN.{length, get_or, take, drop, length-drop}
use lib.Seq.{get_or-drop}
use native.Mathlib.Nat.{add-zero}
use lib.Ieee.{Float, nan}
use Rattle.std.specs.List.{list_all}
use Rattle.pattern_entry.specs.FirstNo.{every}
use Rattle.pattern_entry.specs.Stars.{stars_fit, star_count, unit, star_valid}
use Rattle.pattern_entry.specs.StarsShortcuts.{every_star}
use Rattle.pattern_entry.proofs.Every.{every_at, every_same, every_suc, both_r, all_three}

and_assoc : (a b c d : Bool) → (((a && b) && c) && d) ≡ (a && (b && (c && d)))
and_assoc true b c d = by b
  where
    by : (b : Bool) → ((b && c) && d) ≡ (b && (c && d))
    by true = refl
    by false = refl
and_assoc false b c d = refl

-- A test of every number below n * 3 is a test of n triples.
triples : (u : ℕ → Bool) (n : ℕ) → every (n * 3) u ≡ every n (λ i. u (i * 3) && (u (i * 3 + 1) && u (i * 3 + 2)))
unfolding every
triples u zero = refl
triples u (suc n) =
    let e : suc n * 3 ≡ n * 3 + 1 + 1 + 1 = omega arith in
    let f : n * 3 + 1 + 1 ≡ n * 3 + 2 = omega arith in
    ap (λ (m : ℕ). every m u) e
    ∙ every_suc (n * 3 + 1 + 1) u
    ∙ ap₂ ◌&&◌ (every_suc (n * 3 + 1) u ∙ ap (λ (b : Bool). b && u (n * 3 + 1)) (every_suc (n * 3) u)) (ap u f)
    ∙ and_assoc (every (n * 3) u) (u (n * 3)) (u (n * 3 + 1)) (u (n * 3 + 2))
    ∙ ap (λ (b : Bool). b && (u (n * 3) && (u (n * 3 + 1) && u (n * 3 + 2)))) (triples u n)

-- Component i of the slice is finite and of magnitude at most 1.
abbrev pub unit_at : List Float → ℕ → Bool
unit_at stars j = unit (get_or stars j nan)

first_three : (xs : List Float) → 3 ≤ length xs → take 3 xs ≡ get_or xs 0 nan ∷ get_or xs 1 nan ∷ get_or xs 2 nan ∷ []
first_three [] h = absurd (omega arith)
first_three (a ∷ []) h = absurd (omega arith)
first_three (a ∷ b ∷ []) h = absurd (omega arith)
first_three (a ∷ b ∷ c ∷ xs) h = refl

-- Testing the three components of star i one after another.
pub three_units : (stars : List Float) (i : ℕ) → i * 3 + 3 ≤ length stars
    → list_all unit (take (i * 3 + 3 - i * 3) (drop (i * 3) stars)) ≡ (unit_at stars (i * 3) && (unit_at stars (i * 3 + 1) && unit_at stars (i * 3 + 2)))
three_units stars i h =
    let e : i * 3 + 3 - i * 3 ≡ 3 = omega arith in
    rw (e, first_three (drop (i * 3) stars) (omega (arith, length-drop (i * 3) stars)), get_or-drop, get_or-drop, get_or-drop, add-zero)
    (all_three (unit_at stars (i * 3)) (unit_at stars (i * 3 + 1)) (unit_at stars (i * 3 + 2)))

-- Testing the components one after another tests every star.
pub every_component : (stars : List Float) → every (star_count stars * 3) (unit_at stars) ≡ every_star stars
unfolding every_star star_valid
every_component stars =
    triples (unit_at stars) (star_count stars)
    ∙ every_same (star_count stars) (λ i. unit_at stars (i * 3) && (unit_at stars (i * 3 + 1) && unit_at stars (i * 3 + 2))) (star_valid stars)
    (λ i h. simp (lt-ltb i (star_count stars) h))

module _ (stars : List Float) (valid : every_star stars ≡ true) where
  -- A star is valid exactly if its index is inside the slice.
  pub inside_valid : (i : ℕ) → star_valid stars i ≡ ltb i (star_count stars)
  unfolding star_valid every_star
  inside_valid i = by_test (ltb i (star_count stars)) refl
    where
      by_test : (b : Bool) → ltb i (star_count stars) ≡ b → star_valid stars i ≡ ltb i (star_count stars)
      by_test true e = every_at (star_count stars) (star_valid stars) valid i (ltb-true i (star_count stars) e) ∙ sym e
      by_test false e = simp e

-- A yes to question 7 bounds the length of the slice.
pub fit_few : (stars : List Float) → stars_fit stars ≡ true → length stars ≤ 3145728
unfolding stars_fit
fit_few stars h = leb-true _ _ (both_r (eqb (length stars % 3) 0) (leb (length stars) 3145728) h)
