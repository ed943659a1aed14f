-- `square_root::guess` meets its contract: the two patterns that it reads are no NaN's.
-- Assumes nothing.
use native.Mathlib.Omega.{arith}
use lib.Ieee.{binary64}
use Rattle.square_root.proofs.NoNan.{bits_no_nan}
use Rattle.square_root.proofs.guess.Goals as goal

pub float_from_bits-t : goal.float_from_bits-t
float_from_bits-t c = bits_no_nan binary64 _ (omega arith)

pub float_from_bits-y : goal.float_from_bits-y
float_from_bits-y c = bits_no_nan binary64 _ (omega arith)
