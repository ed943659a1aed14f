-- Calls through C, put together from their steps. Assumes nothing.
use mathlib.Core.Path.{◌≡◌, refl, ap, ap₂, ◌∙◌}
use Prim.Native.Nat.{ℕ}
use mathlib.Core.List.{List}
use lib.Ieee.{Float}
use Rattle.undivided_run.specs.declared.state.State.{State}
use Rattle.search_feed.specs.declared.SearchConfig.{SearchConfig}
use Rattle.search_feed.specs.Data.{frame_of, data_of}
use Rattle.candidates.specs.declared.entry_tests.Candidate.{Candidate}
use Rattle.pattern_search.specs.declared.Searched.{Searched}
use Rattle.pattern_search.specs.Demand3.{returned}
use Rattle.complete.specs.declared.completing.Completed.{Completed}
use Rattle.complete.specs.Completing.{completed_of}
use Rattle.c_types.specs.Config.{config_of}
use Rattle.c_types.specs.State.{state_of}
use Rattle.c_types.specs.Candidate.{candidate_from}
use Rattle.c_types.specs.Answer.{answer_of}
use Rattle.c_types.specs.Results.{completed_numbers, slot_numbers, slot_result_numbers}
use Rattle.c_types.specs.declared.structs.StarSettings.{StarSettings}
use Rattle.c_types.specs.declared.structs.StarState.{StarState}
use Rattle.c_types.specs.declared.structs.StarCandidate.{StarCandidate}
use Rattle.c_types.specs.declared.structs.StarAnswer.{StarAnswer}
use Rattle.c_types.specs.declared.structs.StarCompleted.{StarCompleted}
use Rattle.std.specs.Prelude.{Result, Ok, Err}
use Rattle.question.specs.declared.Question.{Question}
use Rattle.pattern_catalog.specs.declared.slot_read.Slot.{Slot}
use Rattle.pattern_catalog.specs.Answers.{slot_says}
use Rattle.star_search.specs.Call.{Call, answered}

module _ (centroids : List Float) (order : List ℕ) (passes stars : List Float) where
  module _ (settings : StarSettings) (slots : ℕ) (words packed : List ℕ) (raw : StarState) (allowance : ℕ) where
    -- What the search returns for a state and settings.
    abbrev says : State → SearchConfig → Searched
    says st config = returned st (record { lent_data = data_of (frame_of centroids order config passes) slots words packed stars; allowance = allowance })

    -- What the call is given beside the state.
    abbrev lent : Call
    lent = record { centroids = centroids; order = order; settings = settings; passes = passes; slots = slots; words = words; packed = packed; stars = stars; allowance = allowance }

    pub search_through : (config : SearchConfig) → config ≡ config_of settings → (st : State) → st ≡ state_of raw → (r : Searched) → r ≡ says st config → (a : StarAnswer) → a ≡ answer_of raw allowance r → a ≡ answered raw lent
    search_through config p st q r e a f = f ∙ ap (answer_of raw allowance) (e ∙ ap₂ says q p)

  module _ (raw : StarCandidate) (scale : Float) where
    pub complete_through : (c : Candidate) → c ≡ candidate_from raw → (r : Result Completed Question) → r ≡ completed_of centroids order passes stars c scale → (a : StarCompleted) → a ≡ completed_numbers r → a ≡ completed_numbers (completed_of centroids order passes stars (candidate_from raw) scale)
    complete_through c p r e a f = f ∙ ap completed_numbers (e ∙ ap (λ x. completed_of centroids order passes stars x scale) p)

-- The numbers of what `slot_of` returned are those of the answer that it stands for.
pub slot_through : (words : List ℕ) (s : ℕ) (r : Result Slot Question) → slot_result_numbers r ≡ slot_numbers (slot_says words s r)
slot_through words s (Ok Slot.Filled) = refl
slot_through words s (Ok Slot.Empty) = refl
slot_through words s (Err q) = refl
