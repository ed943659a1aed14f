-- `fov_sweep::put_pair` meets its contract. Assumes nothing.
use Prim.Native.Nat.{◌+◌}
use mathlib.Core.Path.{sym, ap}
use native.Mathlib.Omega.{arith}
use lib.ListN.{length}
use Rattle.fov_sweep.proofs.CountValues.{pair_two, pair_one}
use Rattle.fov_sweep.proofs.Offsets.{pair_some}
use lib.Ieee.{of_bits}
use Rattle.fov_sweep.proofs.WriteValues.{put_two, put_one}
use lib.ListN.{length-set}
use Rattle.fov_sweep.proofs.put_pair.Goals as goal

pub bounds-out-at : goal.bounds-out-at
bounds-out-at c = omega (arith, c.requires, pair_some c.args.estimate c.args.offset)

pub bounds-out-at-then-below : goal.bounds-out-at-then-below
unfolding of_bits
bounds-out-at-then-below c = simp length-set (omega (arith, c.requires, ap length (pair_two c.args.estimate c.args.offset c.if-below.true)))

pub returns-then-below : goal.returns-then-below
unfolding of_bits
returns-then-below c =
    let a = c.args in
    (ap (a.at +◌) (sym (ap length (pair_two a.estimate a.offset c.if-below.true))), put_two a.estimate a.offset _ a.at c.requires c.if-below.true)

pub returns : goal.returns
unfolding of_bits
returns c =
    let a = c.args in
    (ap (a.at +◌) (sym (ap length (pair_one a.estimate a.offset c.if-below.false))), put_one a.estimate a.offset _ a.at c.requires c.if-below.false)
