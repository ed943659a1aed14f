-- What a search is fed: the data, the settings and the table. Definitions only.
use Rattle.std.specs.Prelude.{ℕ, Bool, List, Float}
use Rattle.settings.specs.SettingsLimits.{settings_fit}
use Rattle.search_feed.specs.declared.SearchConfig.{SearchConfig}

-- question 4 of the settings
abbrev pub settings_ok : SearchConfig → Bool
settings_ok c = settings_fit c.bins c.checking c.error c.radius c.matching c.fov

-- data and settings: the centroid slice, the brightness list, the settings and the pass slice
pub record Frame : Type 0 where
  pub centroids : List Float
  pub order : List ℕ
  pub config : SearchConfig
  pub passes : List Float

-- What the run is fed: a frame, and the table as its slot count, block words, packed section and star slice.
pub record Data : Type 0 where
  pub frame : Frame
  pub slots : ℕ
  pub words : List ℕ
  pub packed : List ℕ
  pub stars : List Float

-- The frame made of its four parts.
abbrev pub frame_of : List Float → List ℕ → SearchConfig → List Float → Frame
frame_of centroids order config passes = record { centroids = centroids; order = order; config = config; passes = passes }

-- What the run is fed, made of a frame and the four parts of the table.
abbrev pub data_of : Frame → ℕ → List ℕ → List ℕ → List Float → Data
data_of frame slots words packed stars = record { frame = frame; slots = slots; words = words; packed = packed; stars = stars }
