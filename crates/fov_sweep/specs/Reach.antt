-- How far the offsets of a sweep reach. The code works this out once, before the list. Definitions only.
use Rattle.std.specs.Prelude.{cond, Float}
use Rattle.std.specs.Float.Ieee.{lt}
use Rattle.numeric.specs.Value.{zero32, pi32}
use Rattle.numeric.specs.MinMax.{smaller}
use Rattle.settings.specs.declared.tolerance.Tolerance.{Tolerance}
use Rattle.settings.specs.declared.tolerance.Tolerance.TheVariants.{Given, Absent}

-- The largest offset allowed: the error cut to at most pi. It is 0 where the error is absent or not above 0, and then no offset is taken.
abbrev pub reach_of : Tolerance → Float
reach_of (Given x) = cond (lt zero32 x) (smaller x pi32) zero32
reach_of Absent = zero32
