-- The loop of `too_close`, whether or not it finds a direction that is too close. Assumes nothing.
use mathlib.Core.Path.{◌≡◌, refl}
use Prim.Native.Nat.{ℕ, ◌+◌}
use native.Mathlib.Numerals.{add-one}
use mathlib.Core.Bool.{Bool, true, false, ◌||◌}
use mathlib.Core.List.{List, [], ◌∷◌, ◌++◌}
use lib.Ieee.{Float, lt}
use Rattle.thinning.specs.Separation.{dot, too_close}
use Rattle.thinning.specs.Columns.{row_at, rows_of}

module _ (c : Float) (v : List Float) where
  too_close_append : (xs ys : List (List Float)) → too_close c v (xs ++ ys) ≡ (too_close c v xs || too_close c v ys)
  unfolding too_close
  too_close_append [] ys = refl
  too_close_append (x ∷ xs) ys = by (lt c (dot v x)) (too_close_append xs ys)
    where
      by : (b : Bool) → too_close c v (xs ++ ys) ≡ (too_close c v xs || too_close c v ys) → (b || too_close c v (xs ++ ys)) ≡ ((b || too_close c v xs) || too_close c v ys)
      by true h = refl
      by false h = h

  or_true : (a : Bool) → (a || true) ≡ true
  or_true true = refl
  or_true false = refl

  or_false : (a : Bool) → (a || false) ≡ a
  or_false true = refl
  or_false false = refl

  module _ (x y z : List Float) where
    pub near_none : false ≡ too_close c v (rows_of x y z 0)
    unfolding too_close rows_of
    near_none = refl

    pub near_yes : (j : ℕ) → lt c (dot v (row_at x y z j)) ≡ true → true ≡ too_close c v (rows_of x y z (j + 1))
    unfolding too_close rows_of
    near_yes j k = rw (add-one, too_close_append, k, or_true)

    pub near_no : (j : ℕ) → lt c (dot v (row_at x y z j)) ≡ false → too_close c v (rows_of x y z j) ≡ too_close c v (rows_of x y z (j + 1))
    unfolding too_close rows_of
    near_no j k = rw (add-one, too_close_append, k, or_false)
