-- What `block_rank` and `near_rank` return. Definitions only.
use Rattle.std.specs.Prelude.{ℕ, cond, List, ltb, Option, None, Some}
use Rattle.pattern_catalog.specs.Blocks.{place}

-- The place of the slot's entry, if it is below the number of entries in the section.
unfoldable pub ranked_at : List ℕ → ℕ → ℕ → Option ℕ
ranked_at words s entries = cond (ltb (place words s) entries) (Some (place words s)) None
