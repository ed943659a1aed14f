use native.Mathlib.Omega.{arith}
use mathlib.Core.Path.{refl}
use Rattle.fast_path.proofs.FilledKeys.{one_found}
use Rattle.fast_path.proofs.skip_reads.Reads.skip_step.Goals as goal

pub skip_found-requires : goal.skip_found-requires
skip_found-requires c = (omega arith, omega arith, c.requires.1, one_found c.args.self.now c.args.k _ c.home-home.ensures.0, λ h. (refl, refl))
