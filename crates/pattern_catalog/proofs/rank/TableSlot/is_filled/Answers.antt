use Rattle.pattern_catalog.specs.Blocks.{bit_at}
use Rattle.pattern_catalog.proofs.rank.TableSlot.is_filled.Goals as goal

pub returns : goal.returns
unfolding bit_at
returns c = c.bit.ensures
