use native.Mathlib.Omega.{arith}
use Rattle.fast_path.proofs.ValidStars.{allowed_part, allowed_whole}
use Rattle.fast_path.proofs.valid_stars.allowed_stars.Goals as goal

pub returns-then-made-n : goal.returns-then-made-n
returns-then-made-n c = (allowed_part _ _ (omega arith), omega arith)

pub returns : goal.returns
returns c = (allowed_whole _ _ (omega arith), omega arith)
