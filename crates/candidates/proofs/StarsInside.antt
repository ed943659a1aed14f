-- A valid entry's stars lie inside the star slice. Assumes nothing.
use Prim.Native.Nat.{ℕ, zero, suc, ◌+◌, ◌*◌, ◌<◌}
use mathlib.Core.Path.{◌≡◌, refl}
use mathlib.Core.List.{List, [], ◌∷◌, map}
use native.Mathlib.Omega.{arith}
use lib.ListN.{length, get_or}
use lib.Ieee.{Float}
use Rattle.std.proofs.lemmas.List.{get_or_default}
use Rattle.pattern_entry.specs.declared.stars.StarIndex.{StarIndex}
use Rattle.candidates.specs.StarVectors.{no_star, star_of, stars_of}
use Rattle.candidates.specs.StarsInside.{StarsInside}
use Rattle.pattern_entry.specs.Entry.{word_at}
use Rattle.pattern_entry.proofs.StarValid.{valid_star}
use Rattle.pattern_entry.proofs.EntryValid.{valid_entry}
use Rattle.candidates.specs.Claims.{ValidInside}

-- Each of the four, by its place among them.
pub inside_at : (stars : List Float) (four : List StarIndex) → StarsInside stars four → length four ≡ 4 → (x : StarIndex) (k : ℕ) → k < 4 → x ≡ get_or four k x → x.0 * 3 + 2 < length stars
inside_at stars four s l x zero h e = rw (e, get_or_default four 0 x no_star (omega arith)) s.first
inside_at stars four s l x (suc zero) h e = rw (e, get_or_default four 1 x no_star (omega arith)) s.second
inside_at stars four s l x (suc (suc zero)) h e = rw (e, get_or_default four 2 x no_star (omega arith)) s.third
inside_at stars four s l x (suc (suc (suc zero))) h e = rw (e, get_or_default four 3 x no_star (omega arith)) s.fourth
inside_at stars four s l x (suc (suc (suc (suc k)))) h e = absurd (omega arith)

-- The directions of four stars, one for each.
pub stars_map : (stars : List Float) (four : List StarIndex) → length four ≡ 4 → map (star_of stars) four ≡ stars_of stars four
unfolding stars_of
stars_map stars [] l = absurd (omega arith)
stars_map stars (a ∷ []) l = absurd (omega arith)
stars_map stars (a ∷ b ∷ []) l = absurd (omega arith)
stars_map stars (a ∷ b ∷ c ∷ []) l = absurd (omega arith)
stars_map stars (a ∷ b ∷ c ∷ d ∷ []) l = refl
stars_map stars (a ∷ b ∷ c ∷ d ∷ e ∷ r) l = absurd (omega arith)

pub valid_inside : ValidInside
valid_inside stars bytes h =
    let s = valid_entry stars bytes h in
    record {
      first = (valid_star stars (word_at bytes 0) s.1).1;
      second = (valid_star stars (word_at bytes 4) s.2).1;
      third = (valid_star stars (word_at bytes 8) s.3).1;
      fourth = (valid_star stars (word_at bytes 12) s.4).1;
    }
