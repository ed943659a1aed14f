-- The tolerance e, and the limit of an option that may be absent. Definitions only.
use Rattle.std.specs.Prelude.{ℕ, Bool, true, Float}
use Rattle.std.specs.Float.{binary32}
use Rattle.std.specs.Float.Ieee.{of_bits, div}
use Rattle.std.specs.Float.Ieee.Scale.{finite}
use Rattle.numeric.specs.MinMax.{larger, smaller}
use Rattle.numeric.specs.KeyPart.{bins32}
use Rattle.settings.specs.declared.tolerance.Tolerance.{Tolerance}
use Rattle.settings.specs.declared.tolerance.Tolerance.TheVariants.{Given, Absent}

-- The f32 8.
abbrev pub eight : Float
eight = of_bits binary32 0x4100_0000

-- The tolerance that is wished for: "the larger of the user's and the table's". It is the table's where the user's is absent.
abbrev pub wanted_of : Tolerance → Float → Float
wanted_of (Given x) table = larger x table
wanted_of Absent table = table

-- The most that the tolerance may be: "the larger of 8/bins and the table's".
abbrev pub ceiling_of : Float → ℕ → Float
ceiling_of table bins = larger (div binary32 eight (bins32 bins)) table

-- The tolerance e: "The tolerance e is the larger of the user's and the table's, and at most the larger of 8/bins and the table's."
unfoldable pub tolerance_of : Tolerance → Float → ℕ → Float
tolerance_of own table bins = smaller (wanted_of own table) (ceiling_of table bins)

-- Whether an option is absent or finite: "present options finite".
abbrev pub option_fits : Tolerance → Bool
option_fits (Given x) = finite x
option_fits Absent = true
