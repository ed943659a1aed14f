use mathlib.Core.Path.{◌≡◌, ap, ◌∙◌}
use mathlib.Core.List.{[]}
use native.Mathlib.Omega.{arith}
use borrow.Author.Rules.{rules}
use Rattle.std.specs.Prelude.{Ok, Err}
use Rattle.pattern_catalog.specs.SlotRead.{slot_in}
use Rattle.pattern_catalog.proofs.SlotRead.{fits_few, fits_block}
use Rattle.search_feed.proofs.TableRead.{read_slot_empty, read_slot_refused, read_slot_inside, read_slot_at}
use Rattle.search_feed.proofs.read_slot.Goals as goal

pub slot_of_probe-slot-requires : goal.slot_of_probe-slot-requires
slot_of_probe-slot-requires c =
    (omega arith, fits_few c.args.table.now.slots c.args.table.now.words.now c.requires.7, c.requires.1)

pub invariant_of-at : goal.invariant_of-at
invariant_of-at c =
    record { inside = fits_block c.args.table.now.slots c.args.table.now.words.now c.requires.7 _ c.slot_of_probe-slot.ensures.1 }

pub returns-in_err-place : goal.returns-in_err-place
returns-in_err-place c =
    let s = ap (slot_in c.args.table.now.words.now c.args.table.now.packed.now) c.slot_of_probe-slot.ensures.0 in
    let h : c.from_residual.result ≡ Err c.in_err-place.field-0.0 = search rules in
    h ∙ read_slot_refused _ _ _ _ _ _ _ _ _ _ _ (c.find_in.ensures ∙ s) _ c.in_err-place.was

pub returns-in_default : goal.returns-in_default
returns-in_default c =
    let s = ap (slot_in c.args.table.now.words.now c.args.table.now.packed.now) c.slot_of_probe-slot.ensures.0 in
    read_slot_empty _ _ _ _ _ _ _ _ _ _ _ (c.find_in.ensures ∙ s) (c.in_ok-place.was ∙ ap Ok c.in_default.is)

pub invariant_of-entry : goal.invariant_of-entry
invariant_of-entry c =
    record { inside = read_slot_inside c.args.table.now.words.now c.args.table.now.packed.now _ 0 [] 0 c.args.image c.args.config c.args.field c.args.table.now.stars.now _ c.find_in.ensures _ (c.in_ok-place.was ∙ ap Ok c.in-Some.is) }

pub returns : goal.returns
returns c =
    let s = c.slot_of_probe-slot.ensures.0 in
    read_slot_at _ _ _ _ _ _ _ _ _ _ _ (c.find_in.ensures ∙ ap (slot_in c.args.table.now.words.now c.args.table.now.packed.now) s) _ (c.in_ok-place.was ∙ ap Ok c.in-Some.is) _
    (rw (s, c.places_at-four.ensures) at c.evaluate_entry.ensures)
