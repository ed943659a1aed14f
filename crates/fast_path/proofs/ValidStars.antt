-- Question 9 asked of the stars ahead, as many as the reads made allow. Assumes nothing.
use mathlib.Core.Path.{◌≡◌, refl, sym, ap, ◌∙◌}
use Prim.Native.Nat.{ℕ, ◌+◌, ◌-◌, ◌*◌, ◌/◌, ◌≤◌, ◌<◌}
use mathlib.Core.Bool.{Bool, true, false, cond}
use mathlib.Core.Logic.{◌⊎◌, inl, inr, ⊎_elim}
use mathlib.Core.List.{List}
use lib.Dec.{ltb, eqb}
use lib.ListN.{length, get_or, drop, length-take, length-drop}
use lib.Seq.{get_or-take, get_or-drop}
use lib.Ieee.{Float, nan}
use native.Mathlib.Omega.{arith}
use borrow.Author.Tests.{ltb-true, ltb-false, lt-ltb, le-ltb, eq-eqb, ne_eqb}
use Rattle.pattern_entry.specs.Stars.{star_count, star_valid}
use Rattle.pattern_entry.specs.StarsShortcuts.{every_star}
use Rattle.pattern_entry.proofs.StarSlice.{inside_valid}
use Rattle.fast_path.specs.ValidStars.{ValidBelow, known_count, allowed_stars, stars_from, validated_up_to, validated_stars}
use Rattle.fast_path.specs.declared.valid_stars.ValidStars.{ValidStars}
use Rattle.fast_path.specs.declared.valid_stars.ValidStars.TheVariants.{SoFar, Final}

module _ (n made : ℕ) where
  pub allowed_part : made < n / 64 → made * 64 ≡ allowed_stars n made
  unfolding allowed_stars
  allowed_part l = sym (rw (lt-ltb made (n / 64) l))

  pub allowed_whole : n / 64 ≤ made → n ≡ allowed_stars n made
  unfolding allowed_stars
  allowed_whole l = sym (rw (le-ltb made (n / 64) l))

module _ (stars : List Float) (made n to : ℕ) (k : ValidStars) (ke : k ≡ SoFar n) (te : to ≡ allowed_stars (star_count stars) made) where
  pub stars_later : to ≤ n → SoFar n ≡ validated_stars stars k made
  unfolding validated_stars
  stars_later l = sym (rw (ke, ← te, le-ltb n to l))

  -- The answer of question 9 for the stars up to `to`, and whether these are all.
  module _ (l : n < to) (b : Bool) (be : b ≡ every_star (stars_from stars n to)) where
    asked : validated_stars stars k made ≡ cond b (cond (eqb to (star_count stars)) (Final to) (SoFar to)) (Final n)
    unfolding validated_stars
    asked = rw (ke, ← te, lt-ltb n to l, ← be)

    pub met_invalid : b ≡ false → Final n ≡ validated_stars stars k made
    met_invalid f = sym (asked ∙ rw f)

    pub asked_all : b ≡ true → to ≡ star_count stars → Final to ≡ validated_stars stars k made
    asked_all t e = sym (asked ∙ rw (t, eq-eqb to (star_count stars) e))

    pub asked_more : b ≡ true → (to ≡ star_count stars → ⊥) → SoFar to ≡ validated_stars stars k made
    asked_more t e = sym (asked ∙ rw (t, ne_eqb to (star_count stars) e))

-- A star is valid in a part of the star slice exactly where it is valid in the slice.
star_of_part : (stars : List Float) (a b : ℕ) → b * 3 ≤ length stars → (i : ℕ) → a + i < b → star_valid (stars_from stars a b) i ≡ star_valid stars (a + i)
unfolding star_valid
star_of_part stars a b l i h =
    let at : (j k : ℕ) → j < b * 3 - a * 3 → a * 3 + j ≡ k → get_or (stars_from stars a b) j nan ≡ get_or stars k nan = λ j k m e. get_or-take (b * 3 - a * 3) (drop (a * 3) stars) j nan m ∙ get_or-drop (a * 3) stars j nan ∙ ap (λ (x : ℕ). get_or stars x nan) e in
    let n : length (stars_from stars a b) ≡ b * 3 - a * 3 = simp (length-take, length-drop) (omega arith) in
    let p : i < star_count (stars_from stars a b) = omega arith in
    let q : a + i < star_count stars = omega arith in
    simp (
      lt-ltb i (star_count (stars_from stars a b)) p,
      lt-ltb (a + i) (star_count stars) q,
      at (i * 3) ((a + i) * 3) (omega arith) (omega arith),
      at (i * 3 + 1) ((a + i) * 3 + 1) (omega arith) (omega arith),
      at (i * 3 + 2) ((a + i) * 3 + 2) (omega arith) (omega arith),
    )

lt_or_le : (i n : ℕ) → (i < n) ⊎ (n ≤ i)
lt_or_le i n = by (ltb i n) refl
  where
    by : (b : Bool) → ltb i n ≡ b → (i < n) ⊎ (n ≤ i)
    by true e = inl (ltb-true i n e)
    by false e = inr (ltb-false i n e)

-- Where the stars below a are valid, so are all that count as valid once those up to b have been asked.
validated_up_to_below : (stars : List Float) (a b : ℕ) → b ≤ star_count stars → ValidBelow stars a → ValidBelow stars (known_count (validated_up_to stars a b))
validated_up_to_below stars a b l s = by (every_star (stars_from stars a b)) (eqb b (star_count stars)) refl
  where
    later : every_star (stars_from stars a b) ≡ true → (i : ℕ) → i < b → a ≤ i → star_valid stars i ≡ true
    later e i h m =
        let d : a + (i - a) ≡ i = omega arith in
        let n : length (stars_from stars a b) ≡ b * 3 - a * 3 = simp (length-take, length-drop) (omega arith) in
        let q : i - a < star_count (stars_from stars a b) = omega arith in
        rw d at (sym (star_of_part stars a b (omega arith) (i - a) (omega arith)) ∙ inside_valid (stars_from stars a b) e (i - a) ∙ lt-ltb (i - a) (star_count (stars_from stars a b)) q)

    below : every_star (stars_from stars a b) ≡ true → ValidBelow stars b
    below e i h = ⊎_elim (λ m. s i m) (λ m. later e i h m) (lt_or_le i a)

    by : (y z : Bool) → every_star (stars_from stars a b) ≡ y → ValidBelow stars (known_count (cond y (cond z (Final b) (SoFar b)) (Final a)))
    by false z e = s
    by true true e = below e
    by true false e = below e

pub allowed_below : (n made : ℕ) → allowed_stars n made ≤ n
unfolding allowed_stars
allowed_below n made = by (ltb made (n / 64)) refl
  where
    by : (b : Bool) → ltb made (n / 64) ≡ b → cond b (made * 64) n ≤ n
    by true e = let l = ltb-true made (n / 64) e in omega arith
    by false e = omega arith

-- The stars that count as valid are valid, where they were before `validate_stars`.
pub known_below : (stars : List Float) (k : ValidStars) (made : ℕ) → ValidBelow stars (known_count k) → ValidBelow stars (known_count (validated_stars stars k made))
unfolding validated_stars
known_below stars (Final n) made s = s
known_below stars (SoFar n) made s = by (ltb n (allowed_stars (star_count stars) made))
  where
    by : (c : Bool) → ValidBelow stars (known_count (cond c (validated_up_to stars n (allowed_stars (star_count stars) made)) (SoFar n)))
    by true = validated_up_to_below stars n (allowed_stars (star_count stars) made) (allowed_below (star_count stars) made) s
    by false = s
