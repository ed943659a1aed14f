use Prim.Native.Nat.{ℕ, ◌*◌}
use lib.Dec.{eqb}
use lib.ListN.{length}
use mathlib.Core.Path.{◌≡◌, ap}
use Rattle.pattern_catalog.specs.Blocks.{blocks_of, table_fits}
use native.Mathlib.Omega.{arith}
use borrow.Author.Tests.{lt-leb, le-leb}
use Rattle.pattern_catalog.proofs.blocks.table_fits.Goals as goal

pub returns-then-slots-le16777216 : goal.returns-then-slots-le16777216
unfolding table_fits
returns-then-slots-le16777216 c =
    let e : c.div_ceil.result ≡ blocks_of c.args.slots = omega arith in
    simp (le-leb c.args.slots 16777216 (omega arith)) (ap (λ (n : ℕ). eqb (length c.args.words.now) (n * 8)) e)

pub returns-else-slots-le16777216 : goal.returns-else-slots-le16777216
unfolding table_fits
returns-else-slots-le16777216 c = simp (lt-leb c.args.slots 16777216 (omega arith))
