use mathlib.Core.Path.{◌≡◌}
use Rattle.pattern_entry.specs.FirstNo.{every}
use Rattle.pattern_entry.proofs.StarSlice.{unit_at}
use Rattle.pattern_entry.proofs.stars.every_star_valid.Given as goal

abbrev pub invariant-loop-x : goal.invariant-loop-x
invariant-loop-x l = l.valid ≡ every l.x-index (unit_at l.stars)
