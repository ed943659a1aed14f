-- The codes that are left after the first n tests. Assumes nothing.
use Rattle.std.proofs.Common.{◌≡◌, ℕ, zero, suc, List, [], ◌∷◌, get_or, eqb, refl}
use Rattle.pattern_keys.specs.ValidCodes.{masked, ranged_of, valid_of}

-- The masks of the code.
abbrev pub at_lower_end : List ℕ
at_lower_end = 0x0000ffff ∷ 0x00ff00ff ∷ 0x0f0f0f0f ∷ 0x33333333 ∷ 0x55555555 ∷ []

abbrev pub not_falling : List ℕ
not_falling = 0xff00ffff ∷ 0xf0fff0ff ∷ 0xcfcfcfcf ∷ 0xbbbbbbbb ∷ []

-- The codes that are at the lower end in each of the first n parts whose range has one value.
abbrev pub ranged_to : List ℕ → List ℕ → ℕ → ℕ
ranged_to lo hi zero = 0xffffffff
ranged_to lo hi (suc n) = masked (ranged_to lo hi n) (eqb (get_or lo n 0) (get_or hi n 0)) (get_or at_lower_end n 0)

pub ranged_all : (lo hi : List ℕ) → ranged_to lo hi 5 ≡ ranged_of lo hi
unfolding ranged_of
ranged_all lo hi = refl

-- Those of these codes in which none of the first n parts is above the next.
abbrev pub valid_to : List ℕ → List ℕ → ℕ → ℕ
valid_to lo hi zero = ranged_of lo hi
valid_to lo hi (suc n) = masked (valid_to lo hi n) (eqb (get_or lo n 0) (get_or lo (suc n) 0)) (get_or not_falling n 0)

pub valid_all : (lo hi : List ℕ) → valid_to lo hi 4 ≡ valid_of lo hi
unfolding valid_of
valid_all lo hi = refl
