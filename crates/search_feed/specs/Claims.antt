-- Statements about what the run is fed that demand 3 rests on. proofs/ has a proof of each one under the name at the end of its comment.
-- Definitions only.
use Rattle.std.specs.Prelude.{◌≡◌, ℕ, ◌/◌, ◌<◌, true, length}
use Rattle.std.specs.Prelude.{None}
use Rattle.numeric.specs.Value.{zero32, pi32}
use Rattle.numeric.specs.Rising as floats
use Rattle.numeric.specs.Ratios.{Ratios}
use Rattle.pattern.specs.Edges.{edges_of}
use Rattle.combinations.specs.declared.Combination.{Combination}
use Rattle.combinations.specs.Combinations.{Rising}
use Rattle.preprocess.specs.Questions.{centroids_fit, coordinates_fit}
use Rattle.preprocess.specs.BrightnessList.{order_fits}
use Rattle.settings.specs.Passes.{passes_fit}
use Rattle.pattern_catalog.specs.Blocks.{table_fits}
use Rattle.opening_check.specs.OpenCheck.{opening}
use Rattle.undivided_run.specs.PositionExists.{Keyed, Within, Opened}
use Rattle.search_feed.specs.Data.{Frame, Data, settings_ok}
use Rattle.search_feed.specs.Image.{kept_places, directions_of, image_at}
use Rattle.search_feed.specs.Feed.{feed}

-- Questions 1 to 5 are each answered yes for this frame.
pub record FrameFits (F : Frame) : Type 0 where
  pub one : centroids_fit F.centroids ≡ true
  pub two : coordinates_fit F.centroids ≡ true
  pub three : order_fits F.order F.centroids ≡ true
  pub four : settings_ok F.config ≡ true
  pub five : passes_fit F.passes ≡ true

-- Where questions 1 to 5 are answered yes, the six edges of every combination that exists rise from 0 to f32 pi, so they are finite and not negative,
-- and its five ratios rise within [0, 1]: `kept_edges`.
abbrev pub KeptEdges : Type 0
KeptEdges = (F : Frame) → FrameFits F → (i : ℕ) → i < length F.passes / 3 → (q : Combination) → Rising (length (kept_places F i)) q
    → floats.Rising (edges_of (directions_of F i q)) × floats.Between zero32 pi32 (edges_of (directions_of F i q)) × Ratios (image_at F i q).ratios

-- Where questions 1 to 5 are answered yes, every combination that exists has a key, so it is tried: `every_combination_keyed`.
abbrev pub EveryCombinationKeyed : Type 0
EveryCombinationKeyed = (D : Data) → FrameFits D.frame → Keyed (feed D)

-- Where questions 1 to 6 are answered yes, the numbers of passes, kept spots, keys and slots are within their limits: `within_limits`.
abbrev pub WithinLimits : Type 0
WithinLimits = (D : Data) → FrameFits D.frame → table_fits D.slots D.words ≡ true → Within (feed D)

-- Where the table passes the opening check, question 9 is answered yes at every filled slot: `opened_valid`.
abbrev pub OpenedValid : Type 0
OpenedValid = (D : Data) → opening D.slots D.words D.packed D.stars ≡ None → Opened (feed D)
