use mathlib.Core.Path.{sym, ◌∙◌}
use native.Mathlib.Omega.{arith}
use borrow.Author.Tests.{not-true, not-false}
use Rattle.pattern_catalog.proofs.SlotRead.{fits_few, fits_long}
use Rattle.pattern_entry.proofs.StarSlice.{fit_few}
use Rattle.opening_check.proofs.OpenCheck.{open_6, open_7, open_10, open_9, open_passed}
use Rattle.opening_check.proofs.open_check.open_check.Goals as goal

pub returns-then-not-table_fits : goal.returns-then-not-table_fits
returns-then-not-table_fits c = let a = c.args in open_6 a.slots a.words.now a.packed.now a.stars.now (sym c.table_fits.ensures ∙ not-true _ c.if-not-table_fits.true-raw)

pub returns-then-not-stars_fit : goal.returns-then-not-stars_fit
returns-then-not-stars_fit c = let a = c.args in open_7 a.slots a.words.now a.packed.now a.stars.now (sym c.table_fits.ensures ∙ not-false _ c.if-not-table_fits.false-raw) (sym c.stars_fit.ensures ∙ not-true _ c.if-not-stars_fit.true-raw)

pub index_right-requires : goal.index_right-requires
index_right-requires c = let a = c.args in (fits_long a.slots a.words.now (sym c.table_fits.ensures ∙ not-false _ c.if-not-table_fits.false-raw), fits_few a.slots a.words.now (sym c.table_fits.ensures ∙ not-false _ c.if-not-table_fits.false-raw))

pub returns-then-not-index_right : goal.returns-then-not-index_right
returns-then-not-index_right c = let a = c.args in open_10 a.slots a.words.now a.packed.now a.stars.now (sym c.table_fits.ensures ∙ not-false _ c.if-not-table_fits.false-raw) (sym c.stars_fit.ensures ∙ not-false _ c.if-not-stars_fit.false-raw) (sym c.index_right.ensures ∙ not-true _ c.if-not-index_right.true-raw)

pub valid_to-requires : goal.valid_to-requires
valid_to-requires c = let a = c.args in (omega arith, fit_few a.stars.now (sym c.stars_fit.ensures ∙ not-false _ c.if-not-stars_fit.false-raw))

pub returns-then-not-valid_to : goal.returns-then-not-valid_to
returns-then-not-valid_to c = let a = c.args in open_9 a.slots a.words.now a.packed.now a.stars.now (sym c.table_fits.ensures ∙ not-false _ c.if-not-table_fits.false-raw) (sym c.stars_fit.ensures ∙ not-false _ c.if-not-stars_fit.false-raw) (sym c.index_right.ensures ∙ not-false _ c.if-not-index_right.false-raw) (sym c.valid_to.ensures ∙ not-true _ c.if-not-valid_to.true-raw)

pub returns : goal.returns
returns c = let a = c.args in open_passed a.slots a.words.now a.packed.now a.stars.now (sym c.table_fits.ensures ∙ not-false _ c.if-not-table_fits.false-raw) (sym c.stars_fit.ensures ∙ not-false _ c.if-not-stars_fit.false-raw) (sym c.index_right.ensures ∙ not-false _ c.if-not-index_right.false-raw) (sym c.valid_to.ensures ∙ not-false _ c.if-not-valid_to.false-raw)
