-- The keys of five ratios. Each part has from 1 to 4 values, none above bins, and the image key is the first of the list. Assumes nothing.
use mathlib.Core.Path.{◌≡◌, refl, sym, subst}
use Prim.Native.Nat.{ℕ, ◌+◌, ◌≤◌}
use native.Mathlib.Nat.{le_trans}
use mathlib.Core.List.{List, []}
use lib.Dec.{T}
use lib.ListN.{get_or}
use lib.Ieee.{Float, nan}
use lib.Ieee.Scale.{finite}
use Rattle.numeric.specs.Value.{zero32, one32}
use Rattle.numeric.specs.KeyPart.{part_of, low_of, high_of, NarrowTolerance}
use Rattle.numeric.specs.Ratios.{Ratio, Ratios}
use Rattle.numeric.proofs.KeyParts.{image_part_in_range, upper_at_most}
use Rattle.numeric.proofs.PartWidth.{at_most_four_values}
use Rattle.numeric.proofs.Intervals.{in_finite}
use Rattle.pattern.specs.Key.{key_of, Parts}
use Rattle.pattern.proofs.Keys.{part_below, key_rises}
use Rattle.pattern_keys.specs.DistanceSortSteps.{Narrow}
use Rattle.pattern_keys.specs.KeyBounds.{lower_of, upper_of, keys_for}
use Rattle.pattern_keys.specs.Listed.{Has, here, there, Listed, Precedes, Ordered, ordered}
use Rattle.pattern_keys.specs.KeyBoundsClaims.{KeysCount, ImageListed, ImageFirst}
use Rattle.pattern_keys.specs.KeyRange.{Inside}
use Rattle.pattern_keys.proofs.KeyRange.{inside_of}
use Rattle.pattern_keys.proofs.KeyCount.{keys_length, has_some}
use Rattle.pattern_keys.proofs.KeysExact.{keys_all}
use Rattle.pattern_keys.proofs.ByDistance.{keys_ordered, none_before}

module _ (r e : Float) (B : ℕ) (i : Ratio r) (t : NarrowTolerance e B) where
  R : T (finite r)
  R = in_finite {a = zero32} {b = one32} tt tt i.unit

  pub low_image : low_of r e B ≤ part_of r B
  low_image = (image_part_in_range r e B i.representable i.unit.low i.unit.high t.e_finite t.low t.some_bins t.few_bins).0

  pub image_high : part_of r B ≤ high_of r e B
  image_high = (image_part_in_range r e B i.representable i.unit.low i.unit.high t.e_finite t.low t.some_bins t.few_bins).1

  pub high_bound : high_of r e B ≤ B
  high_bound = upper_at_most r e B R t.e_finite t.some_bins t.few_bins

  pub low_bound : low_of r e B ≤ B
  low_bound = le_trans low_image (part_below r B i t.some_bins t.few_bins)

  pub range_narrow : high_of r e B ≤ low_of r e B + 3
  range_narrow = at_most_four_values r e B R t.e_finite i.unit.low i.unit.high t.low t.some_bins t.few_bins t.product

-- every part has at most 4 values
pub ranges_narrow : (r : List Float) (e : Float) (B : ℕ) → Ratios r → NarrowTolerance e B → Narrow (lower_of r e B) (upper_of r e B)
unfolding lower_of upper_of
ranges_narrow r e B i t =
    record {
      first = range_narrow (get_or r 0 nan) e B i.first t;
      second = range_narrow (get_or r 1 nan) e B i.second t;
      third = range_narrow (get_or r 2 nan) e B i.third t;
      fourth = range_narrow (get_or r 3 nan) e B i.fourth t;
      fifth = range_narrow (get_or r 4 nan) e B i.fifth t;
    }

-- none has a part above bins
pub upper_parts : (r : List Float) (e : Float) (B : ℕ) → Ratios r → NarrowTolerance e B → Parts (upper_of r e B) B
unfolding upper_of
upper_parts r e B i t =
    record {
      few = t.few_bins;
      first = high_bound (get_or r 0 nan) e B i.first t;
      second = high_bound (get_or r 1 nan) e B i.second t;
      third = high_bound (get_or r 2 nan) e B i.third t;
      fourth = high_bound (get_or r 3 nan) e B i.fourth t;
      fifth = high_bound (get_or r 4 nan) e B i.fifth t;
    }

pub image_in_ranges : (r : List Float) (e : Float) (B : ℕ) → Ratios r → NarrowTolerance e B → Listed (lower_of r e B) (upper_of r e B) (key_of r B)
unfolding key_of lower_of upper_of
image_in_ranges r e B i t =
    record {
      p = part_of (get_or r 0 nan) B;
      q = part_of (get_or r 1 nan) B;
      r = part_of (get_or r 2 nan) B;
      s = part_of (get_or r 3 nan) B;
      t = part_of (get_or r 4 nan) B;
      is = refl;
      rises = key_rises r B i t.some_bins t.few_bins;
      first = (low_image (get_or r 0 nan) e B i.first t, image_high (get_or r 0 nan) e B i.first t);
      second = (low_image (get_or r 1 nan) e B i.second t, image_high (get_or r 1 nan) e B i.second t);
      third = (low_image (get_or r 2 nan) e B i.third t, image_high (get_or r 2 nan) e B i.third t);
      fourth = (low_image (get_or r 3 nan) e B i.fourth t, image_high (get_or r 3 nan) e B i.fourth t);
      fifth = (low_image (get_or r 4 nan) e B i.fifth t, image_high (get_or r 4 nan) e B i.fifth t);
    }

-- So the image key is in the middle of the ranges.
pub image_inside : (r : List Float) (e : Float) (B : ℕ) → Ratios r → NarrowTolerance e B → Inside (key_of r B) (lower_of r e B) (upper_of r e B)
image_inside r e B i t = inside_of _ _ _ (image_in_ranges r e B i t)

pub image_listed : ImageListed
unfolding keys_for
image_listed r e B i t = keys_all (key_of r B) (lower_of r e B) (upper_of r e B) (key_of r B) (image_in_ranges r e B i t)

pub keys_count : KeysCount
unfolding keys_for
keys_count r e B i t = (
  has_some (keys_for r e B) (image_listed r e B i t),
  keys_length (key_of r B) (lower_of r e B) (upper_of r e B) (ranges_narrow r e B i t),
)

-- A key of a list before which no key comes is the first of the list.
first_of : {c k : List ℕ} {l : List (List ℕ)} → Has k l → Ordered (Precedes c) l → (c ≡ k) → get_or l 0 [] ≡ k
first_of {c} {k} (here t) o e = refl
first_of {c} {k} (there x h) (ordered p o) e = absurd (none_before c x (subst (λ (y : List ℕ). Precedes c x y) (sym e) (p k h)))

pub image_first : ImageFirst
unfolding keys_for
image_first r e B i t = first_of (image_listed r e B i t) (keys_ordered (key_of r B) (lower_of r e B) (upper_of r e B)) refl
