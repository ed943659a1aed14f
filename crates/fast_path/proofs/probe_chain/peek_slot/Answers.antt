use Rattle.std.proofs.Common.{ap, ◌∙◌}
use Rattle.std.specs.Prelude.{Ok}
use Rattle.fast_path.proofs.SlotPeek.{peek_inside, show_empty, show_refused, show_passed, show_stop}
use Rattle.fast_path.proofs.probe_chain.peek_slot.Goals as goal

pub is_valid_mismatch-requires : goal.is_valid_mismatch-requires
is_valid_mismatch-requires c =
    let a = c.args in
    peek_inside a.known.now.table.words.now a.known.now.table.packed.now a.known.now.table.stars.now a.mark a.slot _ c.find_near.ensures _ (c.in-Ok-Some.is ∙ ap Ok c.in-Ok-Some.field-0-is)

pub returns-then-is_valid_mismatch : goal.returns-then-is_valid_mismatch
returns-then-is_valid_mismatch c =
    let a = c.args in
    show_passed a.known.now.table.words.now a.known.now.table.packed.now a.known.now.table.stars.now a.mark a.slot _ c.find_near.ensures _ (c.in-Ok-Some.is ∙ ap Ok c.in-Ok-Some.field-0-is) _ c.is_valid_mismatch.ensures c.if-is_valid_mismatch.true

pub returns-in-Ok-None : goal.returns-in-Ok-None
returns-in-Ok-None c =
    let a = c.args in
    show_empty a.known.now.table.words.now a.known.now.table.packed.now a.known.now.table.stars.now a.mark a.slot _ c.find_near.ensures (c.in-Ok-None.is ∙ ap Ok c.in-Ok-None.field-0-is)

pub returns-in-Err : goal.returns-in-Err
returns-in-Err c =
    let a = c.args in
    show_refused a.known.now.table.words.now a.known.now.table.packed.now a.known.now.table.stars.now a.mark a.slot _ c.find_near.ensures _ c.in-Err.is

pub returns-else-is_valid_mismatch : goal.returns-else-is_valid_mismatch
returns-else-is_valid_mismatch c =
    let a = c.args in
    show_stop a.known.now.table.words.now a.known.now.table.packed.now a.known.now.table.stars.now a.mark a.slot _ c.find_near.ensures _ (c.in-Ok-Some.is ∙ ap Ok c.in-Ok-Some.field-0-is) _ c.is_valid_mismatch.ensures c.if-is_valid_mismatch.false
