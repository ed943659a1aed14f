-- The image key of five ratios lies in the ranges of these ratios, and the lower ends never fall. Assumes nothing.
use Prim.Native.Nat.{ℕ, ◌≤◌}
use mathlib.Core.List.{List}
use lib.Dec.{T}
use lib.ListN.{get_or}
use lib.Ieee.{Float, nan, binary32, le}
use Rattle.numeric.specs.Value.{zero32, one32}
use Rattle.numeric.specs.KeyPart.{bins32, low_of}
use Rattle.numeric.specs.Ratios.{Ratio, Ratios}
use Rattle.numeric.proofs.Intervals.{in_finite}
use Rattle.numeric.proofs.KeyParts.{lower_mono, bins_positive}
use Rattle.pattern.specs.Key.{key_of}
use Rattle.pattern_keys.specs.KeyBounds.{lower_of, upper_of}
use Rattle.numeric.specs.KeyPart.{NarrowTolerance}
use Rattle.pattern_keys.proofs.KeyBounds.{low_image, image_high, low_bound}
use Rattle.pattern_keys.specs.Codes.{Two, Pairs}

low_rises : (r s e : Float) (B : ℕ) → Ratio r → Ratio s → NarrowTolerance e B → T (le r s) → low_of r e B ≤ low_of s e B
low_rises r s e B i j t h =
    lower_mono binary32 32 r s e (bins32 B) (in_finite {a = zero32} {b = one32} tt tt i.unit) (in_finite {a = zero32} {b = one32} tt tt j.unit) t.e_finite (bins_positive B t.some_bins t.few_bins) h

pub image_pairs : (r : List Float) (e : Float) (B : ℕ) → Ratios r → NarrowTolerance e B → Two (lower_of r e B) (upper_of r e B) → Pairs (key_of r B) (lower_of r e B) (upper_of r e B) B
unfolding lower_of upper_of key_of
image_pairs r e B i t w =
    record {
      two = w;
      first = (low_image (get_or r 0 nan) e B i.first t, image_high (get_or r 0 nan) e B i.first t);
      second = (low_image (get_or r 1 nan) e B i.second t, image_high (get_or r 1 nan) e B i.second t);
      third = (low_image (get_or r 2 nan) e B i.third t, image_high (get_or r 2 nan) e B i.third t);
      fourth = (low_image (get_or r 3 nan) e B i.fourth t, image_high (get_or r 3 nan) e B i.fourth t);
      fifth = (low_image (get_or r 4 nan) e B i.fifth t, image_high (get_or r 4 nan) e B i.fifth t);
      rises = (
        low_rises (get_or r 0 nan) (get_or r 1 nan) e B i.first i.second t i.rise.0,
        low_rises (get_or r 1 nan) (get_or r 2 nan) e B i.second i.third t i.rise.1,
        low_rises (get_or r 2 nan) (get_or r 3 nan) e B i.third i.fourth t i.rise.2,
        low_rises (get_or r 3 nan) (get_or r 4 nan) e B i.fourth i.fifth t i.rise.3,
      );
      parts = record {
        few = t.few_bins;
        first = low_bound (get_or r 0 nan) e B i.first t;
        second = low_bound (get_or r 1 nan) e B i.second t;
        third = low_bound (get_or r 2 nan) e B i.third t;
        fourth = low_bound (get_or r 3 nan) e B i.fourth t;
        fifth = low_bound (get_or r 4 nan) e B i.fifth t;
      };
    }
