-- The stars that are known to be valid, and how many may be asked by the number of reads made. Definitions only.
use Rattle.std.specs.Prelude.{◌≡◌, ℕ, ◌*◌, ◌-◌, ◌/◌, ◌<◌, true, cond, List, eqb, ltb, take, drop, Float}
use Rattle.pattern_entry.specs.Stars.{star_count, star_valid}
use Rattle.pattern_entry.specs.StarsShortcuts.{every_star}
use Rattle.fast_path.specs.declared.valid_stars.ValidStars.{ValidStars}
use Rattle.fast_path.specs.declared.valid_stars.ValidStars.TheVariants.{SoFar, Final}

-- Every star below n is valid.
abbrev pub ValidBelow : List Float → ℕ → Type 0
ValidBelow stars n = (i : ℕ) → i < n → star_valid stars i ≡ true

-- The number below which every star is known to be valid.
abbrev pub known_count : ValidStars → ℕ
known_count (SoFar n) = n
known_count (Final n) = n

-- How many of n stars a call that has made `made` reads may have asked: 64 for each read.
unfoldable pub allowed_stars : ℕ → ℕ → ℕ
allowed_stars n made = cond (ltb made (n / 64)) (made * 64) n

-- The part of the star slice with the stars from a to before b.
abbrev pub stars_from : List Float → ℕ → ℕ → List Float
stars_from stars a b = take (b * 3 - a * 3) (drop (a * 3) stars)

-- What is known once the stars from a to before b have been asked, those below a being valid.
abbrev pub validated_up_to : List Float → ℕ → ℕ → ValidStars
validated_up_to stars a b = cond (every_star (stars_from stars a b)) (cond (eqb b (star_count stars)) (Final b) (SoFar b)) (Final a)

-- What a call that has made `made` reads knows of the stars, from what it knew before. Each star is asked once.
unfoldable pub validated_stars : List Float → ValidStars → ℕ → ValidStars
validated_stars stars (Final n) made = Final n
validated_stars stars (SoFar n) made =
    cond (ltb n (allowed_stars (star_count stars) made)) (validated_up_to stars n (allowed_stars (star_count stars) made)) (SoFar n)
