-- Document 01, "One search": what a frame shows of a combination, and the keys that it is looked up by. Definitions only.
use Rattle.std.specs.Prelude.{ℕ, List, [], ◌∷◌, length, get_or, Float}
use Rattle.std.specs.Float.{nan}
use Rattle.combinations.specs.declared.Combination.{Combination}
use Rattle.settings.specs.declared.passes.Pass.{Pass}
use Rattle.settings.specs.Passes.{pass_at}
use Rattle.thinning.specs.KeptList.{spot_at, kept_of}
use Rattle.pattern.specs.Edges.{edges_of, ratios_of}
use Rattle.pattern.specs.Key.{hash_of}
use Rattle.pattern_keys.specs.KeyBounds.{keys_for}
use Rattle.settings.specs.Tolerance.{tolerance_of}
use Rattle.candidates.specs.declared.entry_tests.Image.{Image}
use Rattle.search_feed.specs.declared.SearchConfig.{SearchConfig}
use Rattle.search_feed.specs.Data.{Frame}

-- The largest edge and the five ratios of four directions.
unfoldable pub image_of : List (List Float) → Image
image_of v = record { edge = get_or (edges_of v) 5 nan; ratios = ratios_of (edges_of v) }

-- the tolerance e
abbrev pub tolerance_in : SearchConfig → Float
tolerance_in c = tolerance_of c.matching c.error c.bins

-- the keys of what the image shows, in order
unfoldable pub keys_in : SearchConfig → Image → List (List ℕ)
keys_in c m = keys_for m.ratios (tolerance_in c) c.bins

-- the hash of the k-th key; a number past the list reads as a key of zeros, and question 8 refuses such a state
unfoldable pub hash_in : SearchConfig → Image → ℕ → ℕ
hash_in c m k = hash_of (get_or (keys_in c m) k []) c.bins

module _ (F : Frame) where
  -- Pass number i: its field of view, its pixel scale and the cosine of its separation.
  abbrev pub pass_of : ℕ → Pass
  pass_of i = pass_at F.passes i

  -- The direction of the spot at place p of the brightness list, in pass i.
  abbrev pub spot_of : ℕ → ℕ → List Float
  spot_of i p = spot_at F.centroids F.order (pass_of i).scale p

  -- The places in the brightness list that pass i keeps.
  unfoldable pub kept_places : ℕ → List ℕ
  kept_places i = kept_of (pass_of i).cosine (spot_of i) (length F.order) F.config.checking

  -- The place in the brightness list of position x of the kept list of pass i. A position past the list reads as place 0; question 8 refuses such
  -- a state.
  abbrev pub kept_place : ℕ → ℕ → ℕ
  kept_place i x = get_or (kept_places i) x 0

  -- The four directions of combination q in pass i.
  unfoldable pub directions_of : ℕ → Combination → List (List Float)
  directions_of i q = spot_of i (kept_place i q.a) ∷ spot_of i (kept_place i q.b) ∷ spot_of i (kept_place i q.c) ∷ spot_of i (kept_place i q.d) ∷ []

  -- What the frame shows of combination q in pass i.
  abbrev pub image_at : ℕ → Combination → Image
  image_at i q = image_of (directions_of i q)
