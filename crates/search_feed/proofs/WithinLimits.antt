-- Where questions 1 to 6 are answered yes, every combination that exists has a key, and all counts are within their limits. Assumes nothing.
use mathlib.Core.Path.{◌≡◌}
use Prim.Native.Nat.{ℕ, ◌/◌, ◌≤◌, ◌<◌}
use native.Mathlib.Omega.{arith}
use mathlib.Core.Bool.{true}
use lib.ListN.{length}
use Rattle.combinations.specs.declared.Combination.{Combination}
use Rattle.combinations.specs.Combinations.{Rising}
use Rattle.settings.proofs.PassLimits.{passes_fitting}
use Rattle.settings.specs.SettingsLimitsClaims.{Fitting}
use Rattle.settings.proofs.SettingsLimits.{settings_fitting}
use Rattle.pattern_catalog.proofs.SlotRead.{fits_few}
use Rattle.numeric.specs.KeyPart.{NarrowTolerance}
use Rattle.pattern_keys.proofs.KeyBounds.{keys_count}
use Rattle.search_feed.specs.Data.{Frame, settings_ok}
use Rattle.search_feed.specs.Image.{tolerance_in, keys_in, kept_places, image_at}
use Rattle.search_feed.specs.Feed.{feed}
use Rattle.search_feed.specs.declared.SearchConfig.{SearchConfig}
use Rattle.search_feed.specs.Claims.{FrameFits, EveryCombinationKeyed, WithinLimits}
use Rattle.search_feed.proofs.KeptSpots.{kept_few, image_ratios}

abbrev pub fitting : (c : SearchConfig) → settings_ok c ≡ true → Fitting c.bins c.checking c.error c.radius c.matching c.fov
fitting c h = settings_fitting c.bins c.checking c.error c.radius c.matching c.fov h

pub tolerance_narrow : (c : SearchConfig) → settings_ok c ≡ true → NarrowTolerance (tolerance_in c) c.bins
tolerance_narrow c h = (fitting c h).narrow

module _ (F : Frame) (a : FrameFits F) (i : ℕ) (h : i < length F.passes / 3) (q : Combination) (r : Rising (length (kept_places F i)) q) where
  pub keys_counted : (0 < length (keys_in F.config (image_at F i q))) × (length (keys_in F.config (image_at F i q)) ≤ 1024)
  unfolding keys_in
  keys_counted = keys_count _ (tolerance_in F.config) F.config.bins (image_ratios F a i h q r) (tolerance_narrow F.config a.four)

pub every_combination_keyed : EveryCombinationKeyed
unfolding feed
every_combination_keyed D a i q f = (keys_counted D.frame a i f.pass q f.rising).0

pub within_limits : WithinLimits
unfolding feed
within_limits D a t =
    record {
      passes = (passes_fitting D.frame.passes a.five).few;
      kept = λ i p. omega (arith, kept_few D.frame i, (fitting D.frame.config a.four).few_stars);
      keys = λ i q f. (keys_counted D.frame a i f.pass q f.rising).1;
      slots = fits_few D.slots D.words t;
    }
