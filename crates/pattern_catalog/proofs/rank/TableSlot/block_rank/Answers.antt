use Rattle.std.specs.Prelude.{Some}
use Rattle.pattern_catalog.specs.Blocks.{place}
use Rattle.pattern_catalog.proofs.SlotPlace.{rank_out, rank_in}
use mathlib.Core.Path.{ap₂, ◌∙◌}
use Prim.Native.Nat.{ℕ, ◌+◌}
use native.Mathlib.Omega.{arith}
use Rattle.pattern_catalog.proofs.rank.TableSlot.block_rank.Goals as goal

pub returns-then-rank-entries : goal.returns-then-rank-entries
unfolding place
returns-then-rank-entries c = rank_out c.args.self.now.words.now c.args.self.now.slot c.args.entries (omega arith)

pub returns-then-below-entries : goal.returns-then-below-entries
unfolding place
returns-then-below-entries c = rank_out c.args.self.now.words.now c.args.self.now.slot c.args.entries (omega arith)

pub returns : goal.returns
unfolding place
returns c = ap₂ (λ (x y : ℕ). Some (x + y)) c.rank-rank.ensures c.ones_below_slot-below.ensures ∙ rank_in c.args.self.now.words.now c.args.self.now.slot c.args.entries (omega arith)
