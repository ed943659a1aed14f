-- What a yes to question 9 gives for a star. Assumes nothing.
use Prim.Native.Nat.{ℕ, zero, suc, ◌+◌, ◌*◌, ◌<◌}
use mathlib.Core.Path.{◌≡◌}
use mathlib.Core.Bool.{true}
use native.Mathlib.Omega.{arith}
use native.Mathlib.Nat.{add-zero}
use borrow.Author.Tests.{ltb-true}
use lib.Dec.{ltb}
use lib.ListN.{get_or}
use lib.Ieee.{nan}
use Rattle.pattern_entry.specs.Stars.{star_count, unit, star_valid}
use Rattle.pattern_entry.specs.StarsClaims.{ValidStar}
use Rattle.pattern_entry.proofs.Every.{both_l, both_r}

pub valid_star : ValidStar
unfolding star_valid
valid_star stars i h =
    let l = ltb-true i (star_count stars) (both_l (ltb i (star_count stars)) _ h) in
    let r0 = both_r (ltb i (star_count stars)) _ h in
    let r1 = both_r (unit (get_or stars (i * 3) nan)) _ r0 in
    (l, omega arith, component (both_l (unit (get_or stars (i * 3) nan)) _ r0) (both_l (unit (get_or stars (i * 3 + 1) nan)) _ r1) (both_r (unit (get_or stars (i * 3 + 1) nan)) _ r1))
  where
    component : unit (get_or stars (i * 3) nan) ≡ true → unit (get_or stars (i * 3 + 1) nan) ≡ true → unit (get_or stars (i * 3 + 2) nan) ≡ true
        → (k : ℕ) → k < 3 → unit (get_or stars (i * 3 + k) nan) ≡ true
    component a b c zero l = rw add-zero a
    component a b c (suc zero) l = b
    component a b c (suc (suc zero)) l = c
    component a b c (suc (suc (suc k))) l = absurd (omega arith)
