use mathlib.Core.Path.{sym, ◌∙◌}
use borrow.Author.Tests.{not-true, not-false}
use Rattle.pattern_catalog.proofs.SlotRead.{fits_block, read_6, read_11, read_in}
use Rattle.pattern_catalog.proofs.slot_read.find.Goals as goal

pub returns-then-not-table_fits : goal.returns-then-not-table_fits
returns-then-not-table_fits c = let a = c.args in read_6 a.slots a.words.now a.packed.now a.slot (sym c.table_fits.ensures ∙ not-true _ c.if-not-table_fits.true-raw)

pub returns-then-slot-slots : goal.returns-then-slot-slots
returns-then-slot-slots c = let a = c.args in read_11 a.slots a.words.now a.packed.now a.slot (sym c.table_fits.ensures ∙ not-false _ c.if-not-table_fits.false-raw) c.if-slot-slots.true

pub invariant_of-at : goal.invariant_of-at
invariant_of-at c = let a = c.args in record { inside = fits_block a.slots a.words.now (sym c.table_fits.ensures ∙ not-false _ c.if-not-table_fits.false-raw) a.slot c.if-slot-slots.false }

pub returns : goal.returns
returns c = let a = c.args in c.find_in.ensures ∙ read_in a.slots a.words.now a.packed.now a.slot (sym c.table_fits.ensures ∙ not-false _ c.if-not-table_fits.false-raw) c.if-slot-slots.false
