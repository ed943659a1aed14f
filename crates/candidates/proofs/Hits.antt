-- When an entry gives a candidate, and with what field of view. Assumes nothing.
use Prim.Native.Nat.{ℕ}
use native.Mathlib.Omega.{arith}
use mathlib.Core.Path.{◌≡◌, refl}
use mathlib.Core.Bool.{Bool, true, false, cond}
use mathlib.Core.List.{List}
use borrow.Author.Tests.{eqb-true, eq-eqb}
use lib.Dec.{eqb}
use lib.Ieee.{Float}
use Rattle.pattern.specs.Edges.{edges_of, ratios_of}
use Rattle.pattern_entry.specs.declared.entry.PatternEntry.{PatternEntry}
use Rattle.settings.specs.declared.tolerance.Tolerance.{Tolerance}
use Rattle.candidates.specs.declared.entry_tests.Image.{Image}
use Rattle.std.specs.Prelude.{None, Some}
use Rattle.candidates.specs.StarVectors.{stars_of}
use Rattle.candidates.specs.Comparisons.{fov_consistent, inside}
use Rattle.candidates.specs.EntryTests.{measured_of, field_valid, test_of}
use Rattle.candidates.specs.Claims.{Agrees, HitExactly}

-- An outcome `Some` after four tests in a row means that all four hold.
four_tests : (a b c d : Bool) (x f : Float) → cond a (cond b (cond c (cond d (Some x) None) None) None) None ≡ Some f
    → (a ≡ true) × (b ≡ true) × (c ≡ true) × (d ≡ true) × (f ≡ x)
four_tests true true true true x f h = (refl, refl, refl, refl, cc)
four_tests true true true false x f h = let z : ◌≡◌ {A = ℕ} 0 1 = cc in absurd (omega arith)
four_tests true true false d x f h = let z : ◌≡◌ {A = ℕ} 0 1 = cc in absurd (omega arith)
four_tests true false c d x f h = let z : ◌≡◌ {A = ℕ} 0 1 = cc in absurd (omega arith)
four_tests false b c d x f h = let z : ◌≡◌ {A = ℕ} 0 1 = cc in absurd (omega arith)

module _ (entry : PatternEntry) (mark : ℕ) (stars : List Float) (image : Image) (e field : Float) (error : Tolerance) (f : Float) where
  hit_agrees : test_of entry mark stars image e field error ≡ Some f
      → Agrees entry mark stars image e field error × (f ≡ measured_of (edges_of (stars_of stars entry.stars)) image.edge field)
  unfolding test_of
  hit_agrees h =
      let v = edges_of (stars_of stars entry.stars) in
      let t =
      four_tests (eqb entry.mark mark) (fov_consistent error entry.edge image.edge field) (inside image.ratios e (ratios_of v))
      (field_valid (measured_of v image.edge field)) (measured_of v image.edge field) f h
      in
      (record { mark_agrees = eqb-true entry.mark mark t.0; ratios_inside = t.2; field_near = t.1; valid_field = t.3 }, t.4)

  agrees_hit : Agrees entry mark stars image e field error → f ≡ measured_of (edges_of (stars_of stars entry.stars)) image.edge field
      → test_of entry mark stars image e field error ≡ Some f
  unfolding test_of
  agrees_hit a h = rw (eq-eqb entry.mark mark a.mark_agrees, a.field_near, a.ratios_inside, a.valid_field, h)

pub hit_exactly : HitExactly
hit_exactly entry mark stars image e field error f =
    (hit_agrees entry mark stars image e field error f, λ p. agrees_hit entry mark stars image e field error f p.0 p.1)
