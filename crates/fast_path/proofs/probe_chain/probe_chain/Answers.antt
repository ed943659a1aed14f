use mathlib.Core.Path.{◌≡◌, sym, ◌∙◌}
use Prim.Native.Nat.{◌+◌, ◌-◌, ◌<◌}
use native.Mathlib.Omega.{arith}
use Rattle.pattern_catalog.proofs.SlotRead.{fits_few, fits_block}
use Rattle.fast_path.proofs.ProbeChain.{along_used, along_stop, along_empty, along_last, along_next}
use Rattle.fast_path.proofs.SlotPeek.{passed_place}
use Rattle.fast_path.proofs.probe_chain.probe_chain.Goals as goal

pub overflow_cast-end : goal.overflow_cast-end
overflow_cast-end c = let f = fits_few c.args.known.now.table.slots c.args.known.now.table.words.now c.args.known.now.whole in record { fits = omega arith }

pub overflow_add-end : goal.overflow_add-end
overflow_add-end c = let f = fits_few c.args.known.now.table.slots c.args.known.now.table.words.now c.args.known.now.whole in record { fits = omega arith }

pub probe_slot-slot-requires : goal.probe_slot-slot-requires
probe_slot-slot-requires c = (c.requires.0, fits_few c.args.known.now.table.slots c.args.known.now.table.words.now c.args.known.now.whole, omega arith)

pub peek_slot-requires : goal.peek_slot-requires
peek_slot-requires c = (fits_block c.args.known.now.table.slots c.args.known.now.table.words.now c.args.known.now.whole _ c.probe_slot-slot.ensures.1, λ h. c.loop-c.invariant.near (omega (arith, h, c.probe_slot-slot.ensures.1)))

pub returns-in-Stop : goal.returns-in-Stop
returns-in-Stop c = let T = c.args.known.now.table in along_stop T.words.now T.packed.now T.stars.now T.slots c.args.home c.args.mark _ _ (omega arith) _ c.probe_slot-slot.ensures.0 _ c.peek_slot.ensures.0 c.in-Stop.is ∙ c.loop-c.invariant.more (omega arith)

pub returns-in-Empty : goal.returns-in-Empty
returns-in-Empty c = let T = c.args.known.now.table in along_empty T.words.now T.packed.now T.stars.now T.slots c.args.home c.args.mark _ _ (omega arith) _ c.probe_slot-slot.ensures.0 _ c.peek_slot.ensures.0 c.in-Empty.is ∙ c.loop-c.invariant.more (omega arith)

pub loop-c-preserved : goal.loop-c-preserved
loop-c-preserved c =
    let T = c.args.known.now.table in
    let g = c.peek_slot.ensures in
    let e = c.in-Passed.is in
    let i = c.loop-c.invariant.more (omega arith) in
    let p : 0 < c.args.allowance - (c.loop-c.c - c.args.from) = omega arith in
    let y : c.args.allowance - (c.loop-c.c + 1 - c.args.from) ≡ c.args.allowance - (c.loop-c.c - c.args.from) - 1 = omega arith in
    let z : c.loop-c.c + 1 - 1 ≡ c.loop-c.c = omega arith in
    record {
      more = λ h. rw y (along_next T.words.now T.packed.now T.stars.now T.slots c.args.home c.args.mark _ _ p _ c.probe_slot-slot.ensures.0 _ g.0 _ e h ∙ i);
      over = λ h. rw (y, z) (along_last T.words.now T.packed.now T.stars.now T.slots c.args.home c.args.mark _ _ p _ c.probe_slot-slot.ensures.0 _ g.0 _ e h ∙ i);
      near = λ h. (passed_place T.words.now T.packed.now T.stars.now c.args.mark _ _ (sym g.0 ∙ e), g.1 _ e);
    }

pub returns-then-end-probes : goal.returns-then-end-probes
returns-then-end-probes c =
    let T = c.args.known.now.table in
    let n = c.min-reads.result in
    let e : c.loop-c.c ≡ c.args.from + n = omega arith in
    let y : c.args.allowance - (c.args.from + n - c.args.from) ≡ c.args.allowance - n = omega arith in
    along_used T.words.now T.packed.now T.stars.now T.slots c.args.home c.args.mark _ _ (omega arith) ∙ rw (e, y) at (c.loop-c.invariant.more (omega arith))
