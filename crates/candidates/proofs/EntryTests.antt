-- The tests of an entry, with one law for each way out of `test_entry`. Assumes nothing.
use Prim.Native.Nat.{ℕ}
use mathlib.Core.Path.{◌≡◌}
use mathlib.Core.Bool.{true, false}
use mathlib.Core.List.{List}
use borrow.Author.Tests.{eq-eqb, ne_eqb}
use lib.Ieee.{Float}
use Rattle.settings.specs.PassLimits.{field_fits}
use Rattle.pattern.specs.Edges.{edges_of, ratios_of}
use Rattle.pattern_entry.specs.declared.entry.PatternEntry.{PatternEntry}
use Rattle.settings.specs.declared.tolerance.Tolerance.{Tolerance}
use Rattle.candidates.specs.declared.entry_tests.Image.{Image}
use Rattle.std.specs.Prelude.{Option, None, Some}
use Rattle.candidates.specs.StarVectors.{stars_of}
use Rattle.candidates.specs.Comparisons.{fov_consistent, inside}
use Rattle.candidates.specs.EntryTests.{measured_of, test_of}
use Rattle.candidates.proofs.FieldFits.{field_fits_valid}

module _ (entry : PatternEntry) (mark : ℕ) (stars : List Float) (image : Image) (e field : Float) (error : Tolerance) where
  pub other_mark : (entry.mark ≡ mark → ⊥) → ◌≡◌ {A = Option Float} None (test_of entry mark stars image e field error)
  unfolding test_of
  other_mark h = rw (ne_eqb entry.mark mark h)

  module _ (m : entry.mark ≡ mark) where
    pub fov_inconsistent : false ≡ fov_consistent error entry.edge image.edge field → ◌≡◌ {A = Option Float} None (test_of entry mark stars image e field error)
    unfolding test_of
    fov_inconsistent h = rw (eq-eqb entry.mark mark m, ← h)

    module _ (n : true ≡ fov_consistent error entry.edge image.edge field) (angles : List Float) (a : angles ≡ edges_of (stars_of stars entry.stars)) where
      pub outside : false ≡ inside image.ratios e (ratios_of angles) → ◌≡◌ {A = Option Float} None (test_of entry mark stars image e field error)
      unfolding test_of
      outside h = rw (eq-eqb entry.mark mark m, ← n, ← a, ← h)

      module _ (i : true ≡ inside image.ratios e (ratios_of angles)) where
        pub field_unfit : false ≡ field_fits (measured_of angles image.edge field) → ◌≡◌ {A = Option Float} None (test_of entry mark stars image e field error)
        unfolding test_of
        field_unfit h = rw (eq-eqb entry.mark mark m, ← n, ← a, ← i, ← field_fits_valid (measured_of angles image.edge field), ← h)

        pub hit : true ≡ field_fits (measured_of angles image.edge field) → Some (measured_of angles image.edge field) ≡ test_of entry mark stars image e field error
        unfolding test_of
        hit h = rw (eq-eqb entry.mark mark m, ← n, ← a, ← i, ← field_fits_valid (measured_of angles image.edge field), ← h)
