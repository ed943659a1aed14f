-- What the slot read makes of a place, and what its functions know of one. Definitions only.
use Rattle.std.specs.Prelude.{◌≡◌, ℕ, ◌≤◌, ◌<◌, List, Option, None, Some}
use Rattle.pattern_catalog.specs.Blocks.{place}
use Rattle.pattern_catalog.specs.Answers.{Answer, filled_at, refused}

-- What the read of a filled slot finds: the place of its entry, or a refusal with question 9.
abbrev pub found_by : Option ℕ → Answer
found_by (Some p) = filled_at p
found_by None = refused 9

-- If slot `from` is not after slot s, then `there` is the place of slot `from` and is below m.
abbrev pub PlaceKnown : List ℕ → ℕ → ℕ → ℕ → ℕ → Type 0
PlaceKnown words m s from there = from ≤ s → (there ≡ place words from) × (there < m)
