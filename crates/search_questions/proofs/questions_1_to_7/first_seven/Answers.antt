use mathlib.Core.Path.{sym, ◌∙◌}
use Rattle.search_questions.proofs.Questions1To7.{no_1, no_2, no_3, no_4, no_5, no_6, no_7, all_clear}
use Rattle.search_questions.proofs.questions_1_to_7.first_seven.Goals as goal

pub returns-then-not-centroids_fit : goal.returns-then-not-centroids_fit
returns-then-not-centroids_fit c = no_1 _ _ _ _ _ _ _ (sym c.centroids_fit.ensures ∙ c.if-not-centroids_fit.true)

pub returns-then-not-coordinates_fit : goal.returns-then-not-coordinates_fit
returns-then-not-coordinates_fit c = no_2 _ _ _ _ _ _ _ (sym c.centroids_fit.ensures ∙ c.if-not-centroids_fit.false) (sym c.coordinates_fit.ensures ∙ c.if-not-coordinates_fit.true)

pub returns-then-not-order_fits : goal.returns-then-not-order_fits
returns-then-not-order_fits c = no_3 _ _ _ _ _ _ _ (sym c.centroids_fit.ensures ∙ c.if-not-centroids_fit.false) (sym c.coordinates_fit.ensures ∙ c.if-not-coordinates_fit.false) (sym c.order_fits.ensures ∙ c.if-not-order_fits.true)

pub returns-then-not-settings_ok : goal.returns-then-not-settings_ok
returns-then-not-settings_ok c = no_4 _ _ _ _ _ _ _ (sym c.centroids_fit.ensures ∙ c.if-not-centroids_fit.false) (sym c.coordinates_fit.ensures ∙ c.if-not-coordinates_fit.false) (sym c.order_fits.ensures ∙ c.if-not-order_fits.false) (sym c.settings_ok.ensures ∙ c.if-not-settings_ok.true)

pub returns-then-not-passes_fit : goal.returns-then-not-passes_fit
returns-then-not-passes_fit c = no_5 _ _ _ _ _ _ _ (sym c.centroids_fit.ensures ∙ c.if-not-centroids_fit.false) (sym c.coordinates_fit.ensures ∙ c.if-not-coordinates_fit.false) (sym c.order_fits.ensures ∙ c.if-not-order_fits.false) (sym c.settings_ok.ensures ∙ c.if-not-settings_ok.false) (sym c.passes_fit.ensures ∙ c.if-not-passes_fit.true)

pub returns-then-not-table_fits : goal.returns-then-not-table_fits
returns-then-not-table_fits c = no_6 _ _ _ _ _ _ _ (sym c.centroids_fit.ensures ∙ c.if-not-centroids_fit.false) (sym c.coordinates_fit.ensures ∙ c.if-not-coordinates_fit.false) (sym c.order_fits.ensures ∙ c.if-not-order_fits.false) (sym c.settings_ok.ensures ∙ c.if-not-settings_ok.false) (sym c.passes_fit.ensures ∙ c.if-not-passes_fit.false) (sym c.table_fits.ensures ∙ c.if-not-table_fits.true)

pub returns-then-not-stars_fit : goal.returns-then-not-stars_fit
returns-then-not-stars_fit c = no_7 _ _ _ _ _ _ _ (sym c.centroids_fit.ensures ∙ c.if-not-centroids_fit.false) (sym c.coordinates_fit.ensures ∙ c.if-not-coordinates_fit.false) (sym c.order_fits.ensures ∙ c.if-not-order_fits.false) (sym c.settings_ok.ensures ∙ c.if-not-settings_ok.false) (sym c.passes_fit.ensures ∙ c.if-not-passes_fit.false) (sym c.table_fits.ensures ∙ c.if-not-table_fits.false) (sym c.stars_fit.ensures ∙ c.if-not-stars_fit.true)

pub returns : goal.returns
returns c = all_clear _ _ _ _ _ _ _ (sym c.centroids_fit.ensures ∙ c.if-not-centroids_fit.false) (sym c.coordinates_fit.ensures ∙ c.if-not-coordinates_fit.false) (sym c.order_fits.ensures ∙ c.if-not-order_fits.false) (sym c.settings_ok.ensures ∙ c.if-not-settings_ok.false) (sym c.passes_fit.ensures ∙ c.if-not-passes_fit.false) (sym c.table_fits.ensures ∙ c.if-not-table_fits.false) (sym c.stars_fit.ensures ∙ c.if-not-stars_fit.false)
