-- One call of `star_search`: what it is given, and what it returns. Definitions only.
use Rattle.std.specs.Prelude.{ℕ, List, Float}
use Rattle.search_feed.specs.Data.{frame_of, data_of}
use Rattle.pattern_search.specs.Demand3.{Given, returned}
use Rattle.c_types.specs.Config.{config_of}
use Rattle.c_types.specs.State.{state_of}
use Rattle.c_types.specs.Answer.{answer_of}
use Rattle.c_types.specs.declared.structs.StarSettings.{StarSettings}
use Rattle.c_types.specs.declared.structs.StarState.{StarState}
use Rattle.c_types.specs.declared.structs.StarAnswer.{StarAnswer}

-- What one call is given beside the state.
pub record Call : Type 0 where
  pub centroids : List Float
  pub order : List ℕ
  pub settings : StarSettings
  pub passes : List Float
  pub slots : ℕ
  pub words : List ℕ
  pub packed : List ℕ
  pub stars : List Float
  pub allowance : ℕ

-- What the search itself is given by such a call.
abbrev pub given_by : Call → Given
given_by g =
    record {
      lent_data = data_of (frame_of g.centroids g.order (config_of g.settings) g.passes) g.slots g.words g.packed g.stars;
      allowance = g.allowance;
    }

-- What `star_search` returns. This is its contract.
abbrev pub answered : StarState → Call → StarAnswer
answered raw g = answer_of raw g.allowance (returned (state_of raw) (given_by g))
