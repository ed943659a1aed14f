-- What other crates rely on, written as statements. proofs/ has a proof of each one, under the name given after it. Definitions only.
use Rattle.std.specs.Prelude.{◌≡◌, ℕ, ◌↔◌, true, List, Float, Some}
use Rattle.pattern.specs.Edges.{edges_of, ratios_of}
use Rattle.pattern_entry.specs.declared.entry.PatternEntry.{PatternEntry}
use Rattle.pattern_entry.specs.Entry.{entry_read}
use Rattle.pattern_entry.specs.Validity.{entry_valid}
use Rattle.settings.specs.declared.tolerance.Tolerance.{Tolerance}
use Rattle.candidates.specs.StarVectors.{stars_of}
use Rattle.candidates.specs.Comparisons.{fov_consistent, inside}
use Rattle.candidates.specs.EntryTests.{measured_of, field_valid, test_of}
use Rattle.candidates.specs.StarsInside.{StarsInside}
use Rattle.candidates.specs.declared.entry_tests.Image.{Image}

-- The four conditions of the sentence "A read gives a candidate exactly when .. its 16-bit mark agrees, all five ratios lie strictly inside the
-- tolerance and both field-of-view tests pass." That the slot is filled is said by `GivesExactly` of pattern_search.
pub record Agrees (entry : PatternEntry) (mark : ℕ) (stars : List Float) (image : Image) (e field : Float) (error : Tolerance) : Type 0 where
  pub mark_agrees : entry.mark ≡ mark
  pub ratios_inside : inside image.ratios e (ratios_of (edges_of (stars_of stars entry.stars))) ≡ true
  pub field_near : fov_consistent error entry.edge image.edge field ≡ true
  pub valid_field : field_valid (measured_of (edges_of (stars_of stars entry.stars)) image.edge field) ≡ true

-- An entry gives a candidate exactly when the four conditions hold, and the candidate's field of view is the measured one: `hit_exactly`.
abbrev pub HitExactly : Type 0
HitExactly = (entry : PatternEntry) (mark : ℕ) (stars : List Float) (image : Image) (e field : Float) (error : Tolerance) (f : Float)
    → (test_of entry mark stars image e field error ≡ Some f)
    ↔ (Agrees entry mark stars image e field error × (f ≡ measured_of (edges_of (stars_of stars entry.stars)) image.edge field))

-- A valid entry's stars lie inside the star slice: `valid_inside`.
abbrev pub ValidInside : Type 0
ValidInside = (stars : List Float) (bytes : List ℕ) → entry_valid stars bytes ≡ true → StarsInside stars (entry_read bytes).stars
