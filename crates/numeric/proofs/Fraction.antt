-- A finite float as a fraction of natural numbers, and the order of two such fractions. The laws of order and rounding are stated with these.
-- Definitions only.
use Rattle.std.proofs.Common.{ℕ, ◌+◌, ◌*◌, ◌<◌, ◌≤◌, Bool, true, false, pos}
use lib.Ieee.{Float, nan, inf, fin, up}
use lib.Ieee.Positive.{den}

-- The whole number n as a float.
abbrev pub at : ℕ → Float
at n = fin false n (pos 0)

-- The float is not a NaN.
abbrev pub number : Float → Bool
number nan = false
number (inf s) = true
number (fin s m e) = true

-- A finite x is (over x - under x) / den x, and one of `over x` and `under x` is 0.
abbrev pub over : Float → ℕ
over nan = 0
over (inf s) = 0
over (fin true m e) = 0
over (fin false m e) = m * up e

abbrev pub under : Float → ℕ
under nan = 0
under (inf s) = 0
under (fin true m e) = m * up e
under (fin false m e) = 0

-- The order x ≤ y of two finite floats, as one inequality of natural numbers.
abbrev pub Below : Float → Float → Type 0
Below x y = over x * den y + under y * den x ≤ over y * den x + under x * den y

-- The order x < y of two finite floats, as one inequality of natural numbers.
abbrev pub Strictly : Float → Float → Type 0
Strictly x y = over x * den y + under y * den x < over y * den x + under x * den y
