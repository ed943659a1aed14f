-- `complete::completing::complete` meets its contract. Assumes nothing.
use mathlib.Core.Path.{◌≡◌, sym, ap, ap₂, ◌∙◌}
use borrow.Author.Tests.{not-true, not-false}
use Rattle.complete.specs.Answers.{vectors, completed_as}
use Rattle.complete.specs.ImageVectors.{scale_of, image_vectors, matched_of}
use Rattle.complete.proofs.Question14.{pass_exists, rising_places, stars_inside}
use Rattle.complete.proofs.PlacesInside.{places_inside}
use Rattle.complete.proofs.Answers.{and_said}
use Rattle.complete.proofs.QuestionOrder.{no_1, no_2, no_3, no_5, no_7, no_14, no_9, all_yes}
use Rattle.complete.specs.Completing.{completed_of}
use Rattle.complete.specs.declared.completing.Completed.{Completed}
use Rattle.std.specs.Prelude.{Result, Err}
use Rattle.question.specs.declared.Question.{Question}
use Rattle.question.specs.declared.Question.TheVariants.{CentroidSlice, Coordinates, BrightnessList, Passes, StarSlice, EntryAndStars, CandidateAndScale}
use Rattle.complete.proofs.completing.complete.Goals as goal

pub returns-then-not-centroids_fit : goal.returns-then-not-centroids_fit
returns-then-not-centroids_fit c = let h : ◌≡◌ {A = Result Completed Question} (Err CentroidSlice) (completed_of c.args.centroids.now c.args.order.now c.args.passes.now c.args.stars.now c.args.candidate c.args.scale) = no_1 _ _ _ _ _ _ (sym c.centroids_fit.ensures ∙ not-true _ c.if-not-centroids_fit.true-raw) in
    record { completed = h; says = (and_said _ _ _ _ _ _ _ h).1 }

pub returns-then-not-coordinates_fit : goal.returns-then-not-coordinates_fit
returns-then-not-coordinates_fit c =
    let h : ◌≡◌ {A = Result Completed Question} (Err Coordinates) (completed_of c.args.centroids.now c.args.order.now c.args.passes.now c.args.stars.now c.args.candidate c.args.scale) = no_2 _ _ _ _ _ _ (sym c.centroids_fit.ensures ∙ not-false _ c.if-not-centroids_fit.false-raw) (sym c.coordinates_fit.ensures ∙ not-true _ c.if-not-coordinates_fit.true-raw) in
    record { completed = h; says = (and_said _ _ _ _ _ _ _ h).1 }

pub returns-then-not-order_fits : goal.returns-then-not-order_fits
returns-then-not-order_fits c =
    let h : ◌≡◌ {A = Result Completed Question} (Err BrightnessList) (completed_of c.args.centroids.now c.args.order.now c.args.passes.now c.args.stars.now c.args.candidate c.args.scale) = no_3 _ _ _ _ _ _ (sym c.centroids_fit.ensures ∙ not-false _ c.if-not-centroids_fit.false-raw) (sym c.coordinates_fit.ensures ∙ not-false _ c.if-not-coordinates_fit.false-raw) (sym c.order_fits.ensures ∙ not-true _ c.if-not-order_fits.true-raw) in
    record { completed = h; says = (and_said _ _ _ _ _ _ _ h).1 }

pub returns-then-not-passes_fit : goal.returns-then-not-passes_fit
returns-then-not-passes_fit c =
    let h : ◌≡◌ {A = Result Completed Question} (Err Passes) (completed_of c.args.centroids.now c.args.order.now c.args.passes.now c.args.stars.now c.args.candidate c.args.scale) = no_5 _ _ _ _ _ _ (sym c.centroids_fit.ensures ∙ not-false _ c.if-not-centroids_fit.false-raw) (sym c.coordinates_fit.ensures ∙ not-false _ c.if-not-coordinates_fit.false-raw) (sym c.order_fits.ensures ∙ not-false _ c.if-not-order_fits.false-raw) (sym c.passes_fit.ensures ∙ not-true _ c.if-not-passes_fit.true-raw) in
    record { completed = h; says = (and_said _ _ _ _ _ _ _ h).1 }

pub returns-then-not-stars_fit : goal.returns-then-not-stars_fit
returns-then-not-stars_fit c =
    let h : ◌≡◌ {A = Result Completed Question} (Err StarSlice) (completed_of c.args.centroids.now c.args.order.now c.args.passes.now c.args.stars.now c.args.candidate c.args.scale) = no_7 _ _ _ _ _ _ (sym c.centroids_fit.ensures ∙ not-false _ c.if-not-centroids_fit.false-raw) (sym c.coordinates_fit.ensures ∙ not-false _ c.if-not-coordinates_fit.false-raw) (sym c.order_fits.ensures ∙ not-false _ c.if-not-order_fits.false-raw) (sym c.passes_fit.ensures ∙ not-false _ c.if-not-passes_fit.false-raw) (sym c.stars_fit.ensures ∙ not-true _ c.if-not-stars_fit.true-raw) in
    record { completed = h; says = (and_said _ _ _ _ _ _ _ h).1 }

pub returns-then-not-candidate_fits : goal.returns-then-not-candidate_fits
returns-then-not-candidate_fits c =
    let h : ◌≡◌ {A = Result Completed Question} (Err CandidateAndScale) (completed_of c.args.centroids.now c.args.order.now c.args.passes.now c.args.stars.now c.args.candidate c.args.scale) = no_14 _ _ _ _ _ _ (sym c.centroids_fit.ensures ∙ not-false _ c.if-not-centroids_fit.false-raw) (sym c.coordinates_fit.ensures ∙ not-false _ c.if-not-coordinates_fit.false-raw) (sym c.order_fits.ensures ∙ not-false _ c.if-not-order_fits.false-raw) (sym c.passes_fit.ensures ∙ not-false _ c.if-not-passes_fit.false-raw) (sym c.stars_fit.ensures ∙ not-false _ c.if-not-stars_fit.false-raw) (sym c.candidate_fits.ensures ∙ not-true _ c.if-not-candidate_fits.true-raw) in
    record { completed = h; says = (and_said _ _ _ _ _ _ _ h).1 }

pub returns-then-not-four_valid : goal.returns-then-not-four_valid
returns-then-not-four_valid c =
    let h : ◌≡◌ {A = Result Completed Question} (Err EntryAndStars) (completed_of c.args.centroids.now c.args.order.now c.args.passes.now c.args.stars.now c.args.candidate c.args.scale) = no_9 _ _ _ _ _ _ (sym c.centroids_fit.ensures ∙ not-false _ c.if-not-centroids_fit.false-raw) (sym c.coordinates_fit.ensures ∙ not-false _ c.if-not-coordinates_fit.false-raw) (sym c.order_fits.ensures ∙ not-false _ c.if-not-order_fits.false-raw) (sym c.passes_fit.ensures ∙ not-false _ c.if-not-passes_fit.false-raw) (sym c.stars_fit.ensures ∙ not-false _ c.if-not-stars_fit.false-raw) (sym c.candidate_fits.ensures ∙ not-false _ c.if-not-candidate_fits.false-raw) (sym c.four_valid.ensures ∙ not-true _ c.if-not-four_valid.true-raw) in
    record { completed = h; says = (and_said _ _ _ _ _ _ _ h).1 }

pub pixel_scale-at-requires : goal.pixel_scale-at-requires
pixel_scale-at-requires c =
    pass_exists _ _ _ _ (sym c.candidate_fits.ensures ∙ not-false _ c.if-not-candidate_fits.false-raw)

pub image_vectors-found-requires : goal.image_vectors-found-requires
image_vectors-found-requires c =
    places_inside _ _ _ (sym c.order_fits.ensures ∙ not-false _ c.if-not-order_fits.false-raw) (rising_places _ _ _ _ (sym c.candidate_fits.ensures ∙ not-false _ c.if-not-candidate_fits.false-raw))

pub star_vectors-stars-requires : goal.star_vectors-stars-requires
star_vectors-stars-requires c =
    stars_inside _ _ (sym c.four_valid.ensures ∙ not-false _ c.if-not-four_valid.false-raw)

pub returns : goal.returns
returns c =
    let drawn : c.matched-image.result ≡ matched_of (image_vectors c.args.centroids.now c.args.order.now c.args.candidate.places (scale_of c.args.passes.now c.args.candidate c.args.scale)) = c.matched-image.ensures ∙ ap matched_of (c.image_vectors-found.ensures ∙ ap (image_vectors _ _ _) c.pixel_scale-at.ensures) in
    let h : completed_as (vectors c.matched-image.result c.star_vectors-stars.result) ≡ completed_of c.args.centroids.now c.args.order.now c.args.passes.now c.args.stars.now c.args.candidate c.args.scale = ap₂ (λ v s. completed_as (vectors v s)) drawn c.star_vectors-stars.ensures ∙ all_yes _ _ _ _ _ _ (sym c.centroids_fit.ensures ∙ not-false _ c.if-not-centroids_fit.false-raw) (sym c.coordinates_fit.ensures ∙ not-false _ c.if-not-coordinates_fit.false-raw) (sym c.order_fits.ensures ∙ not-false _ c.if-not-order_fits.false-raw) (sym c.passes_fit.ensures ∙ not-false _ c.if-not-passes_fit.false-raw) (sym c.stars_fit.ensures ∙ not-false _ c.if-not-stars_fit.false-raw) (sym c.candidate_fits.ensures ∙ not-false _ c.if-not-candidate_fits.false-raw) (sym c.four_valid.ensures ∙ not-false _ c.if-not-four_valid.false-raw) in
    record { completed = h; says = (and_said _ _ _ _ _ _ _ h).1 }
