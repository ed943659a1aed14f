use mathlib.Core.Path.{sym, ◌∙◌, ap}
use native.Mathlib.Omega.{arith}
use Rattle.search_feed.specs.Lent.{data_in}
use Rattle.search_cache.proofs.Loaded.{loaded_four}
use Rattle.search_step.proofs.CacheAfter.{after_valid}
use Rattle.pattern_search.proofs.Iterating.{means, entry_filled, here_of, room_of, read_slot_same, read_slot_bounds, at_read, reply_refused, read_iterated, ready_after}
use Rattle.pattern_search.proofs.reading.single_read.Goals as goal

pub read_slot-requires : goal.read_slot-requires
read_slot-requires c =
    let D = data_in c.args.fitting.now.frame c.args.table.now in
    read_slot_bounds D c.args.p _ c.args.loaded c.requires.0.asked c.requires.2 c.requires.3 c.requires.4 (here_of D c.args.cursor c.args.p _ c.requires.0 c.requires.1) c.requires.0.table

pub returns-in-Err : goal.returns-in-Err
returns-in-Err c =
    let D = data_in c.args.fitting.now.frame c.args.table.now in
    let m = means D c.args.p _ (sym c.in-Err.is ∙ (read_slot_same D c.args.p _ c.args.loaded c.requires.0.asked c.requires.2 c.requires.3 c.requires.4 (here_of D c.args.cursor c.args.p _ c.requires.0 c.requires.1) _ (ap (λ z. z.field) c.pass_at-field.ensures) _ c.read_slot.ensures)) in
    reply_refused D c.args.st c.args.allowance c.args.cursor c.args.p c.requires.1 c.requires.5 m.0 _ m.1

pub step-on-requires : goal.step-on-requires
step-on-requires c =
    let D = data_in c.args.fitting.now.frame c.args.table.now in
    let m = room_of D c.args.cursor c.args.p _ c.requires.0 c.requires.1 in
    (at_read D c.args.p _ c.args.loaded c.requires.0.asked c.requires.2 c.requires.3 c.requires.4 (here_of D c.args.cursor c.args.p _ c.requires.0 c.requires.1) c.requires.0.table, m.0, m.1)

pub overflow_sub-allowance : goal.overflow_sub-allowance
overflow_sub-allowance c = omega (arith, c.requires.5)

pub returns : goal.returns
returns c =
    let D = data_in c.args.fitting.now.frame c.args.table.now in
    let m = means D c.args.p _ (sym c.in-Ok.is ∙ (read_slot_same D c.args.p _ c.args.loaded c.requires.0.asked c.requires.2 c.requires.3 c.requires.4 (here_of D c.args.cursor c.args.p _ c.requires.0 c.requires.1) _ (ap (λ z. z.field) c.pass_at-field.ensures) _ c.read_slot.ensures)) in
    let v = c.step-on.ensures.cursor _ _ _ (c.saw_entry-full.ensures ∙ entry_filled D c.args.p _ m) in
    let d = c.step-on.ensures.caches in
    let y = ready_after D c.args.cursor c.args.p _ _ c.requires.0 c.requires.1 _ v d.pass (after_valid _ _ _ d (loaded_four D.frame c.args.p.pass _ c.requires.2 c.args.p.four c.requires.3)) in
    read_iterated D c.args.st c.args.allowance c.args.cursor c.args.p c.requires.1 c.requires.5 _ v _ y _ m _ c.iteration_after.ensures
