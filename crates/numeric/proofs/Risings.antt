-- Laws of lists of floats that rise, and of lists of floats that all lie between two ends. Assumes nothing.
use Rattle.std.proofs.Common.{ℕ, zero, suc, ◌<◌, T, List, ◌∷◌, length, get_or, arith}
use lib.Ieee.{Float, nan, le}
use Rattle.numeric.specs.Interval.{In}
use Rattle.numeric.specs.Rising.{Rising, Between, rises_none, rises_one, rises, between_none, between}

-- ---- by index
pub rising_at : (l : List Float) (i : ℕ) → suc i < length l → Rising l → T (le (get_or l i nan) (get_or l (suc i) nan))
rising_at l i h rises_none = absurd (omega arith)
rising_at l i h (rises_one x) = absurd (omega arith)
rising_at l zero h (rises p r) = p
rising_at l (suc i) h (rises {y = y} {l = m} p r) = rising_at (y ∷ m) i (omega arith) r

pub between_at : (a b : Float) (l : List Float) (i : ℕ) → i < length l → Between a b l → In a b (get_or l i nan)
between_at a b l i h between_none = absurd (omega arith)
between_at a b l zero h (between p r) = p
between_at a b l (suc i) h (between {l = m} p r) = between_at a b m i (omega arith) r
