use mathlib.Core.Path.{refl}
use Rattle.pattern_keys.specs.Codes.{code_of}
use Rattle.pattern_keys.proofs.KeysByCode.{code_bits}
use Rattle.pattern_keys.proofs.codes.code_of.Goals as goal

pub returns : goal.returns
unfolding code_of
returns c = (refl, (code_bits c.args.c c.args.lo c.args.hi c.args.bins c.requires).small)
