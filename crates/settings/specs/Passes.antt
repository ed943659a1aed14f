-- The passes, and question 5 of document 01. Definitions only.
use Rattle.std.specs.Prelude.{ℕ, zero, suc, ◌+◌, ◌*◌, ◌/◌, ◌%◌, Bool, true, ◌&&◌, List, leb, eqb, length, get_or, Float}
use Rattle.std.specs.Float.{nan}
use Rattle.settings.specs.PassLimits.{field_fits, scale_fits, cosine_fits}
use Rattle.settings.specs.declared.passes.Pass.{Pass}

-- Whether the three numbers of a pass lie within question 5's limits.
unfoldable pub pass_fits : Pass → Bool
pass_fits p = field_fits p.field && (scale_fits p.scale && cosine_fits p.cosine)

-- Pass number i, counted from 0: the triple (field, scale, cosine). A pass past the slice reads as NaNs; questions 8 and 14 refuse a state or
-- a candidate that names such a pass.
unfoldable pub pass_at : List Float → ℕ → Pass
pass_at passes i = record { field = get_or passes (i * 3) nan; scale = get_or passes (i * 3 + 1) nan; cosine = get_or passes (i * 3 + 2) nan }

-- Whether each of the first n passes lies within question 5's limits.
unfoldable pub first_fit : List Float → ℕ → Bool
first_fit passes zero = true
first_fit passes (suc n) = first_fit passes n && pass_fits (pass_at passes n)

-- Question 5: "Is the pass slice 1 to 256 whole triples (field, scale, cosine), each with field above 0 and below f32 pi, scale above 0 and
-- at most 16, cosine from −1 to 1?"
unfoldable pub passes_fit : List Float → Bool
passes_fit passes =
    eqb (length passes % 3) 0
    && (leb 3 (length passes)
    && (leb (length passes) 768 && first_fit passes (length passes / 3)))
