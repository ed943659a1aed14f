-- `candidates::entry_tests::test_entry` meets its contract. Assumes nothing.
use mathlib.Core.Path.{◌≡◌, sym, ap, ◌∙◌}
use mathlib.Core.Bool.{true}
use borrow.Author.Tests.{not-true, not-false}
use Rattle.pattern.specs.Edges.{edges_of, ratios_of}
use Rattle.candidates.specs.StarVectors.{stars_of}
use Rattle.candidates.specs.Comparisons.{fov_consistent, inside}
use Rattle.candidates.specs.EntryTests.{measured_of}
use Rattle.candidates.proofs.EntryTests.{other_mark, fov_inconsistent, outside, field_unfit, hit}
use Rattle.candidates.proofs.entry_tests.test_entry.Goals as goal
use Rattle.candidates.proofs.entry_tests.test_entry.Goals.{After-inside, After-compute_sorted_edge_angles-angles, Else-not-fov_consistent}

pub returns-then-entry-mark : goal.returns-then-entry-mark
returns-then-entry-mark c = other_mark _ _ _ _ _ _ _ c.if-entry-mark.true

pub returns-then-not-fov_consistent : goal.returns-then-not-fov_consistent
returns-then-not-fov_consistent c = fov_inconsistent _ _ _ _ _ _ _ c.if-entry-mark.false (sym (not-true _ c.if-not-fov_consistent.true-raw) ∙ c.fov_consistent.ensures)

pub returns-then-not-inside : goal.returns-then-not-inside
returns-then-not-inside c =
    let near : true ≡ fov_consistent c.args.error c.args.entry.edge c.args.image.edge c.args.field = sym (not-false _ c.if-not-fov_consistent.false-raw) ∙ c.fov_consistent.ensures in
    let angled : c.compute_sorted_edge_angles-angles.result ≡ edges_of (stars_of c.args.stars.now c.args.entry.stars) = c.compute_sorted_edge_angles-angles.ensures ∙ ap edges_of c.star_vectors.ensures in
    let compared : c.inside.result ≡ inside c.args.image.ratios c.args.e (ratios_of c.compute_sorted_edge_angles-angles.result) = c.inside.ensures ∙ ap (inside _ _) c.compute_edge_ratios.ensures in
    outside _ _ _ _ _ _ _ c.if-entry-mark.false near _ angled (sym (not-true _ c.if-not-inside.true-raw) ∙ compared)

pub returns-then-not-field_fits : goal.returns-then-not-field_fits
unfolding measured_of
returns-then-not-field_fits c =
    let near : true ≡ fov_consistent c.args.error c.args.entry.edge c.args.image.edge c.args.field = sym (not-false _ c.if-not-fov_consistent.false-raw) ∙ c.fov_consistent.ensures in
    let angled : c.compute_sorted_edge_angles-angles.result ≡ edges_of (stars_of c.args.stars.now c.args.entry.stars) = c.compute_sorted_edge_angles-angles.ensures ∙ ap edges_of c.star_vectors.ensures in
    let compared : c.inside.result ≡ inside c.args.image.ratios c.args.e (ratios_of c.compute_sorted_edge_angles-angles.result) = c.inside.ensures ∙ ap (inside _ _) c.compute_edge_ratios.ensures in
    field_unfit _ _ _ _ _ _ _ c.if-entry-mark.false near _ angled (sym (not-false _ c.if-not-inside.false-raw) ∙ compared) (sym (not-true _ c.if-not-field_fits.true-raw) ∙ c.field_fits.ensures)

pub returns : goal.returns
unfolding measured_of
returns c =
    let near : true ≡ fov_consistent c.args.error c.args.entry.edge c.args.image.edge c.args.field = sym (not-false _ c.if-not-fov_consistent.false-raw) ∙ c.fov_consistent.ensures in
    let angled : c.compute_sorted_edge_angles-angles.result ≡ edges_of (stars_of c.args.stars.now c.args.entry.stars) = c.compute_sorted_edge_angles-angles.ensures ∙ ap edges_of c.star_vectors.ensures in
    let compared : c.inside.result ≡ inside c.args.image.ratios c.args.e (ratios_of c.compute_sorted_edge_angles-angles.result) = c.inside.ensures ∙ ap (inside _ _) c.compute_edge_ratios.ensures in
    hit _ _ _ _ _ _ _ c.if-entry-mark.false near _ angled (sym (not-false _ c.if-not-inside.false-raw) ∙ compared) (sym (not-false _ c.if-not-field_fits.false-raw) ∙ c.field_fits.ensures)
