-- Document 01, "One search": when a filled slot's entry gives a candidate. Definitions only.
use Rattle.std.specs.Prelude.{ℕ, Bool, cond, ◌&&◌, List, eqb, get_or, Float, Option, None, Some}
use Rattle.std.specs.Float.{nan, binary32}
use Rattle.std.specs.Float.Ieee.{mul, div, lt}
use Rattle.std.specs.Float.Ieee.Scale.{finite}
use Rattle.numeric.specs.Value.{zero32, pi32}
use Rattle.pattern.specs.Edges.{edges_of, ratios_of}
use Rattle.pattern_entry.specs.declared.entry.PatternEntry.{PatternEntry}
use Rattle.settings.specs.declared.tolerance.Tolerance.{Tolerance}
use Rattle.candidates.specs.StarVectors.{stars_of}
use Rattle.candidates.specs.Comparisons.{fov_consistent, inside}
use Rattle.candidates.specs.declared.entry_tests.Image.{Image}

-- "the measured field (largest angle worked out from the four stars / image edge · pass field)"
unfoldable pub measured_of : List Float → Float → Float → Float
measured_of angles edge field = mul binary32 (div binary32 (get_or angles 5 nan) edge) field

-- The condition on the measured field, which "must be finite, above 0 and below f32 pi".
unfoldable pub field_valid : Float → Bool
field_valid x = finite x && (lt zero32 x && lt x pi32)

-- The measured field of an entry that gives a candidate, and none for one that is passed over: the outcome of an entry's tests, which come in this order: the mark, the field of the stored edge, the ratios, the measured field.
unfoldable pub test_of : PatternEntry → ℕ → List Float → Image → Float → Float → Tolerance → Option Float
test_of entry mark stars image e field error =
    let angles = edges_of (stars_of stars entry.stars) in
    let measured = measured_of angles image.edge field in
    cond (eqb entry.mark mark)
    (cond (fov_consistent error entry.edge image.edge field)
    (cond (inside image.ratios e (ratios_of angles))
    (cond (field_valid measured) (Some measured) None)
    None)
    None)
    None
