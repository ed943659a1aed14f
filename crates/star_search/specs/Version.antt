-- The version of the C interface. Definitions only.
use Rattle.std.specs.Prelude.{ℕ}

-- The number that include/star_search.h calls STAR_SEARCH_VERSION; include/test and the binding's tests compare the two.
abbrev pub version : ℕ
version = 1
