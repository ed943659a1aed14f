-- What other crates rely on, written as statements. proofs/ has a proof of each one, under the name given after it. Definitions only.
use Rattle.std.specs.Prelude.{◌≡◌, ℕ, ◌≤◌, true, T, Float}
use Rattle.std.specs.Float.Ieee.{le}
use Rattle.std.specs.Float.Ieee.Scale.{finite}
use Rattle.numeric.specs.Value.{zero32, one32}
use Rattle.numeric.specs.KeyPart.{NarrowTolerance}
use Rattle.settings.specs.Tolerance.{tolerance_of, option_fits}
use Rattle.settings.specs.declared.tolerance.Tolerance.{Tolerance}
use Rattle.settings.specs.SettingsLimits.{settings_fit}

-- What is known of settings that question 4 lets through.
pub record Fitting (bins stars : ℕ) (table radius : Float) (own field : Tolerance) : Type 0 where
  pub few_stars : stars ≤ 64
  pub table_low : T (le zero32 table)
  pub table_high : T (le table one32)
  pub radius_finite : T (finite radius)
  pub radius_low : T (le zero32 radius)
  pub own_fits : T (option_fits own)
  pub field_fits : T (option_fits field)
  pub narrow : NarrowTolerance (tolerance_of own table bins) bins

-- Where question 4 is answered yes, all of this holds of the settings: `settings_fitting`.
abbrev pub SettingsFitting : Type 0
SettingsFitting = (bins stars : ℕ) (table radius : Float) (own field : Tolerance)
    → settings_fit bins stars table radius own field ≡ true → Fitting bins stars table radius own field
