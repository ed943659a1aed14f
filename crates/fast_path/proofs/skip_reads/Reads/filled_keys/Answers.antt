use mathlib.Core.Path.{◌∙◌}
use lib.ListN.{length-set}
use native.Mathlib.Omega.{arith}
use Rattle.pattern_catalog.proofs.SlotRead.{fits_block}
use Rattle.fast_path.proofs.FilledKeys.{none_filled, filled_looked, byte_most}
use Rattle.fast_path.proofs.skip_reads.Reads.filled_keys.Goals as goal

pub loop-key-init : goal.loop-key-init
loop-key-init c = record { room = c.told-found; few = omega arith; filled = none_filled c.args.self.now c.args.from }

pub invariant_of-slot : goal.invariant_of-slot
invariant_of-slot c = let T = c.args.self.now.known.table in record { inside = fits_block T.slots T.words.now c.args.self.now.known.whole _ c.home-home.ensures.1 }

pub loop-key-preserved : goal.loop-key-preserved
loop-key-preserved c =
    let l = c.loop-key in
    record {
      room = length-set _ _ _ ∙ l.invariant.room;
      few = omega (arith, byte_most c.is_filled.result);
      filled = filled_looked c.args.self.now l.found c.args.from l.key l.m _ (omega arith) c.home-home.ensures.0 l.invariant.filled _ c.is_filled.ensures;
    }
