use mathlib.Core.Path.{ap, ◌∙◌}
use native.Mathlib.Omega.{arith}
use lib.Ieee.{binary32, sub, mul, le, of_bits, to_unsigned}
use Rattle.numeric.specs.KeyPart.{bins32}
use Rattle.pattern_keys.proofs.CutByComparing.{exact, byte_most, part_small, near_small, low_near, low_none}
use Rattle.pattern_keys.proofs.key_bounds.KeyTolerance.low.Goals as goal

pub int_to_float-x : goal.int_to_float-x
int_to_float-x c = exact c.args.self.bins (omega (arith, c.args.self.narrow.few_bins))

pub int_to_float-k : goal.int_to_float-k
int_to_float-k c = exact c.args.k (omega (arith, part_small c.args.r c.args.self.e c.args.self.bins c.args.k c.requires.0 c.args.self.narrow c.requires.1))

pub overflow_add-k : goal.overflow_add-k
overflow_add-k c =
    let h = part_small c.args.r c.args.self.e c.args.self.bins c.args.k c.requires.0 c.args.self.narrow c.requires.1 in
    let t = byte_most (le (bins32 c.args.k) (mul binary32 (sub binary32 c.args.r c.args.self.e) (bins32 c.args.self.bins))) in
    record { fits = omega arith }

pub int_to_float-n : goal.int_to_float-n
int_to_float-n c = exact c.saturating_sub-n.result (near_small c.args.r c.args.self.e c.args.self.bins c.args.k c.saturating_sub-n.result c.requires.0 c.args.self.narrow c.requires.1 c.saturating_sub-n.ensures)

pub returns-then-n-x : goal.returns-then-n-x
returns-then-n-x c = low_near c.args.r c.args.self.e c.args.self.bins c.args.k c.saturating_sub-n.result c.requires.0 c.args.self.narrow c.requires.1 c.saturating_sub-n.ensures c.if-n-x.true

pub returns-then-n-eq0 : goal.returns-then-n-eq0
returns-then-n-eq0 c = low_none c.args.r c.args.self.e c.args.self.bins c.args.k c.saturating_sub-n.result c.requires.0 c.args.self.narrow c.requires.1 c.saturating_sub-n.ensures c.if-n-eq0.true

pub returns : goal.returns
unfolding of_bits
returns c = c.truncate.ensures ∙ ap (to_unsigned 32) c.larger.ensures
