-- Question 9 for every star of the slice at once. ValidityShortcuts.antt makes a shorter way to question 9 of it. Definitions only.
use Rattle.std.specs.Prelude.{Bool, List, Float}
use Rattle.pattern_entry.specs.FirstNo.{every}
use Rattle.pattern_entry.specs.Stars.{star_count, star_valid}

-- Whether every star of the slice is valid.
unfoldable pub every_star : List Float → Bool
every_star stars = every (star_count stars) (star_valid stars)
