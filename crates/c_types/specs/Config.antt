-- The settings from a host in C, as the library's own types. Definitions only.
-- Every bit pattern has a meaning: an unknown tag becomes a value that its question refuses (star_search/specs/Claims.antt), so that the
-- questions keep their order and the first no wins.
use Rattle.std.specs.Prelude.{ℕ, cond, eqb, leb, Float, None, Some}
use Rattle.std.specs.Float.{nan}
use Rattle.settings.specs.declared.tolerance.Tolerance.{Tolerance}
use Rattle.settings.specs.declared.tolerance.Tolerance.TheVariants.{Given, Absent}
use Rattle.undivided_run.specs.Undivided.{Cap}
use Rattle.search_feed.specs.declared.SearchConfig.{SearchConfig}
use Rattle.c_types.specs.declared.structs.StarSettings.{StarSettings}

-- An option by its tag: 0 is absent and 1 given; any other tag gives a NaN, which questions 4 and 12 refuse.
unfoldable pub option_of : ℕ → Float → Tolerance
option_of tag x = cond (eqb tag 0) Absent (cond (eqb tag 1) (Given x) (Given nan))

-- The cap by its tag: 0 is absent, any other tag given.
unfoldable pub cap_of : ℕ → ℕ → Cap
cap_of tag most = cond (eqb tag 0) None (Some most)

-- The bins, or 0 where the cap's tag is neither 0 nor 1, which question 4 refuses.
unfoldable pub bins_of : ℕ → ℕ → ℕ
bins_of tag bins = cond (leb tag 1) bins 0

-- The settings.
unfoldable pub config_of : StarSettings → SearchConfig
config_of s =
    record {
      bins = bins_of s.cap_given s.bins;
      checking = s.checking;
      error = s.error;
      radius = s.radius;
      matching = option_of s.matching_given s.matching;
      fov = option_of s.fov_given s.fov;
      cap = cap_of s.cap_given s.cap;
      patterns = s.patterns;
    }
