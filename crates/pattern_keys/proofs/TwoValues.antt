-- The test of a range for at most two values, and what it says of all five ranges. Assumes nothing.
use Prim.Native.Nat.{ℕ, ◌+◌}
use mathlib.Core.Path.{◌≡◌, refl, ap}
use mathlib.Core.Bool.{Bool, true, false, ◌&&◌}
use mathlib.Core.List.{List, [], ◌∷◌}
use borrow.Author.Tests.{leb-true}
use lib.ListN.{length, get_or}
use Rattle.std.specs.List.{list_all, zip}
use Rattle.pattern.proofs.ListsEqual.{five_elements}
use Rattle.numeric.proofs.Tests.{both}
use Rattle.pattern_keys.specs.Codes.{Two}
use Rattle.pattern_keys.specs.TwoValues.{pair_of, two_at_most}

-- Whether a pair of ends has at most two values between them.
abbrev pub narrow : ℕ × ℕ → Bool
narrow p = pair_of p.0 p.1

and_true : (b : Bool) → (b && true) ≡ b
and_true true = refl
and_true false = refl

five_pairs : (a b c d e v w x y z : ℕ)
    → list_all narrow (zip (a ∷ b ∷ c ∷ d ∷ e ∷ []) (v ∷ w ∷ x ∷ y ∷ z ∷ [])) ≡ two_at_most (a ∷ b ∷ c ∷ d ∷ e ∷ []) (v ∷ w ∷ x ∷ y ∷ z ∷ [])
unfolding two_at_most
five_pairs a b c d e v w x y z = ap (λ (t : Bool). pair_of a v && (pair_of b w && (pair_of c x && (pair_of d y && t)))) (and_true (pair_of e z))

-- The five tests, one after the other.
pub all_narrow : (lo hi : List ℕ) → length lo ≡ 5 → length hi ≡ 5 → list_all narrow (zip lo hi) ≡ two_at_most lo hi
all_narrow lo hi h k = rw (five_elements 0 lo h, five_elements 0 hi k) (five_pairs _ _ _ _ _ _ _ _ _ _)

-- Where the test is true, all five ranges have at most two values.
pub two_of : (lo hi : List ℕ) → two_at_most lo hi ≡ true → Two lo hi
unfolding two_at_most
two_of lo hi e =
    let a = both (pair_of (get_or lo 0 0) (get_or hi 0 0)) _ e in
    let b = both (pair_of (get_or lo 1 0) (get_or hi 1 0)) _ a.1 in
    let c = both (pair_of (get_or lo 2 0) (get_or hi 2 0)) _ b.1 in
    let d = both (pair_of (get_or lo 3 0) (get_or hi 3 0)) _ c.1 in
    record {
      first = leb-true (get_or hi 0 0) (get_or lo 0 0 + 1) a.0;
      second = leb-true (get_or hi 1 0) (get_or lo 1 0 + 1) b.0;
      third = leb-true (get_or hi 2 0) (get_or lo 2 0 + 1) c.0;
      fourth = leb-true (get_or hi 3 0) (get_or lo 3 0 + 1) d.0;
      fifth = leb-true (get_or hi 4 0) (get_or lo 4 0 + 1) d.1;
    }
