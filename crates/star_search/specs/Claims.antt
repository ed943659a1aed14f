-- What a host may rely on beside the contracts, written as statements. proofs/ has a proof of each one, under the name given after it.
-- Definitions only.
use Rattle.std.specs.Prelude.{◌≡◌, ℕ, ◌<◌, true, false, ◌⊎◌, ◌↔◌, List, length, take, drop, Float}
use Rattle.std.specs.Prelude.{None, Some, true, is_ok}
use Rattle.candidates.specs.declared.entry_tests.Candidate.{Candidate}
use Rattle.undivided_run.specs.declared.state.State.{State}
use Rattle.undivided_run.specs.declared.state.Status.{Status}
use Rattle.undivided_run.specs.declared.state.Position.{Position}
use Rattle.undivided_run.specs.declared.state.Next.{Next}
use Rattle.undivided_run.specs.declared.state.Next.TheVariants.{Goes, Ends}
use Rattle.search_questions.specs.Question8.{state_fits}
use Rattle.undivided_run.specs.Calls.{candidate}
use Rattle.undivided_run.specs.Step.{start, resume, first_read}
use Rattle.search_feed.specs.Data.{Data, settings_ok}
use Rattle.search_feed.specs.Feed.{feed}
use Rattle.search_questions.specs.Questions.{first_no}
use Rattle.settings.specs.PassLimits.{scale_fits}
use Rattle.pattern_search.specs.Answers.{searched_says}
use Rattle.pattern_search.specs.Demand3.{Given, returned}
use Rattle.complete.specs.Completing.{completed_of}
use Rattle.pattern_catalog.specs.Answers.{Answer}
use Rattle.pattern_catalog.specs.SlotRead.{section_part}
use Rattle.opening_check.specs.OpenCheck.{opening}
use Rattle.fov_sweep.specs.Sweep.{sweep_fits}
use Rattle.c_types.specs.Config.{option_of, config_of}
use Rattle.c_types.specs.State.{state_of}
use Rattle.c_types.specs.Candidate.{candidate_from}
use Rattle.undivided_run.specs.StatusNumber.{status_number}
use Rattle.c_types.specs.Answer.{plain_numbers, state_numbers, candidate_numbers}
use Rattle.c_types.specs.Results.{opened_number, part_numbers, completed_numbers}
use Rattle.star_search.specs.Call.{Call, given_by, answered}
use Rattle.c_types.specs.declared.structs.StarSettings.{StarSettings}
use Rattle.c_types.specs.declared.structs.StarState.{StarState}

-- `star_open` answers 0 exactly where the table passes the opening check: `zero_passes`.
abbrev pub ZeroPasses : Type 0
ZeroPasses = (slots : ℕ) (words packed : List ℕ) (stars : List Float) → (opened_number (opening slots words packed stars) ≡ 0) ↔ (opening slots words packed stars ≡ None)

-- A state given to C and taken back is the same state: `state_back`.
abbrev pub StateBack : Type 0
StateBack = (s : State) → state_of (state_numbers s) ≡ s

-- A candidate with four places and four stars that is given to C and taken back is the same candidate: `candidate_back`.
abbrev pub CandidateBack : Type 0
CandidateBack = (c : Candidate) → length c.places ≡ 4 → length c.stars ≡ 4 → candidate_from (candidate_numbers c) ≡ c

-- What comes next at a state as received: a read, or the status that ends the run.
abbrev pub next_of : StarState → Call → Next
next_of raw g = let D = (given_by g).lent_data in resume (first_read (feed D) D.frame.config.cap) (state_of raw).phase

-- "When no read is left the answer is ended, even with allowance 0; otherwise allowance 0 changes nothing": with allowance 0 a call is refused (3)
-- by the first no of questions 1 to 8; else it is ended (2) with its status where no read is left, and answers "allowance used" (1) where one is.
-- With 3 and with 1 it gives back the state as received, with its unused numbers: `zero_changes_nothing`.
abbrev pub ZeroChangesNothing : Type 0
ZeroChangesNothing = (raw : StarState) (g : Call) → g.allowance ≡ 0
    → ((k : ℕ) × (first_no (given_by g).lent_data (state_of raw) ≡ Some k) × ((answered raw g).answer ≡ 3) × ((answered raw g).number ≡ k) × ((answered raw g).state ≡ raw))
    ⊎ ((s : Status) × (next_of raw g ≡ Ends s) × ((answered raw g).answer ≡ 2) × ((answered raw g).number ≡ status_number s))
    ⊎ ((r : Position) × (next_of raw g ≡ Goes r) × ((answered raw g).answer ≡ 1) × ((answered raw g).state ≡ raw))

-- A state whose numbers are all zero is the fresh state: `zero_is_fresh`.
abbrev pub ZeroIsFresh : Type 0
ZeroIsFresh = state_of (plain_numbers 0 0 0 0) ≡ start

-- Settings with an unknown tag are refused by question 4: `unknown_settings`.
abbrev pub UnknownSettings : Type 0
UnknownSettings = (s : StarSettings) → ((1 < s.matching_given) ⊎ (1 < s.fov_given)) ⊎ (1 < s.cap_given) → settings_ok (config_of s) ≡ false

-- A sweep with an unknown tag is refused by question 12: `unknown_error`.
abbrev pub UnknownError : Type 0
UnknownError = (estimate error step : Float) (tag : ℕ) → 1 < tag → sweep_fits estimate (option_of tag error) step ≡ false

-- A state with an unknown phase, or ended with an unknown status, is refused by question 8, whatever is lent: `unknown_state`.
abbrev pub UnknownState : Type 0
UnknownState = (D : Data) (s : StarState) → (2 < s.phase) ⊎ ((s.phase ≡ 2) × (2 < s.status)) → state_fits (feed D) (state_of s) ≡ false

-- The bytes at the offset and length that `star_entry` returns are the part that the slot read hands back: `part_as_numbers`.
abbrev pub PartAsNumbers : Type 0
PartAsNumbers = (packed : List ℕ) (a : Answer) → take (part_numbers a).length (drop (part_numbers a).offset packed) ≡ section_part packed a

-- A candidate that a search gave can be completed with the same frame and stars and any scale above 0 and at most 16: `completable`.
abbrev pub Completable : Type 0
Completable = (st : State) (g : Given) (x : Candidate) (scale : Float) → searched_says (returned st g) ≡ candidate x → scale_fits scale ≡ true
    → is_ok (completed_of g.lent_data.frame.centroids g.lent_data.frame.order g.lent_data.frame.passes g.lent_data.stars x scale) ≡ true

-- A candidate that `star_search` gave can be completed by `star_complete` in the same way: `completable_through_c`.
abbrev pub CompletableThroughC : Type 0
CompletableThroughC = (raw : StarState) (g : Call) (scale : Float) → (answered raw g).answer ≡ 0 → scale_fits scale ≡ true
    → (completed_numbers (completed_of g.centroids g.order g.passes g.stars (candidate_from (answered raw g).candidate) scale)).answer ≡ 0
