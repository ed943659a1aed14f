use Rattle.std.proofs.Common.{ℕ, ◌%◌, ap}
use Rattle.pattern.specs.Key.{home_of}
use Rattle.pattern.proofs.key.hash_to_index.Goals as goal

pub returns : goal.returns
unfolding home_of
returns c = ap (λ (n : ℕ). n % c.args.slots) c.wrapping_mul.ensures
