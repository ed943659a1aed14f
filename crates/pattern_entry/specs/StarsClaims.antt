-- What callers may rely on, as statements. The files of proofs/ prove each one under the name given in its comment. Definitions only.
use Rattle.std.specs.Prelude.{ℕ, ◌+◌, ◌*◌, ◌<◌, ◌≡◌, true, List, length, get_or, Float}
use Rattle.std.specs.Float.{nan}
use Rattle.pattern_entry.specs.Stars.{star_count, unit, star_valid}

-- ---- what a yes to question 9 gives for a star, proofs/StarValid.antt

-- A valid star lies inside the star slice, and each of its three components is finite and of magnitude at most 1. Proved as `valid_star`.
abbrev pub ValidStar : Type 0
ValidStar = (stars : List Float) (i : ℕ) → star_valid stars i ≡ true
    → (i < star_count stars) × (i * 3 + 2 < length stars) × ((k : ℕ) → k < 3 → unit (get_or stars (i * 3 + k) nan) ≡ true)
