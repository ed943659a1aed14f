-- Document 01, "Questions, first no wins": questions 1 to 8 of a search call. Definitions only.
use Rattle.std.specs.Prelude.{ℕ, List, Float}
use Rattle.std.specs.Prelude.{Option, None, Some}
use Rattle.preprocess.specs.Questions.{centroids_fit, coordinates_fit}
use Rattle.preprocess.specs.BrightnessList.{order_fits}
use Rattle.settings.specs.Passes.{passes_fit}
use Rattle.pattern_entry.specs.FirstNo.{ask}
use Rattle.pattern_catalog.specs.Blocks.{table_fits}
use Rattle.pattern_entry.specs.Stars.{stars_fit}
use Rattle.undivided_run.specs.declared.state.State.{State}
use Rattle.search_questions.specs.Question8.{state_fits}
use Rattle.undivided_run.specs.Undivided.{cases}
use Rattle.search_feed.specs.Data.{Frame, Data, settings_ok}
use Rattle.search_feed.specs.Feed.{feed}

-- The number of the first of questions 1 to 7 whose answer is no, if any is.
unfoldable pub first_seven : Frame → ℕ → List ℕ → List Float → Option ℕ
first_seven F slots words stars =
    ask (centroids_fit F.centroids) (Some 1)
    (ask (coordinates_fit F.centroids) (Some 2)
    (ask (order_fits F.order F.centroids) (Some 3)
    (ask (settings_ok F.config) (Some 4)
    (ask (passes_fit F.passes) (Some 5)
    (ask (table_fits slots words) (Some 6)
    (ask (stars_fit stars) (Some 7) None))))))

-- The number of the first of questions 1 to 8 whose answer is no, if any is.
unfoldable pub first_no : Data → State → Option ℕ
first_no D st =
    cases (first_seven D.frame D.slots D.words D.stars) (ask (state_fits (feed D) st) (Some 8) None) λ n. Some n
