-- Where question 4 is answered yes, the tolerance is finite and not negative, and e·bins is at most 1.25. Assumes nothing.
use mathlib.Core.Path.{◌≡◌, refl}
use Prim.Native.Nat.{ℕ, ◌≤◌, ◌<◌}
use mathlib.Core.Bool.{Bool, true, false, cond, ◌&&◌}
use lib.IntN.{pos}
use lib.Dec.{T, leb, leb→le, lit≤}
use native.Mathlib.Omega.{arith}
use lib.Ieee.Order.{le_of_values}
use lib.Ieee.{Float, fin, binary32, of_bits, div, le, lt}
use lib.Ieee.Fits.{and_l, and_r}
use lib.Ieee.Scale.{finite}
use Rattle.numeric.specs.Value.{zero32, one32}
use Rattle.numeric.specs.Interval.{In}
use Rattle.numeric.specs.MinMax.{larger, smaller}
use Rattle.numeric.specs.KeyPart.{bins32}
use Rattle.numeric.proofs.Order.{le_through, not_lt, finite_number, holds}
use Rattle.numeric.proofs.Intervals.{in_finite, in_wider, in_div}
use Rattle.numeric.proofs.Bounds.{finite_between}
use Rattle.numeric.proofs.KeyParts.{bins_value}
use Rattle.settings.specs.Tolerance.{eight, wanted_of, ceiling_of, tolerance_of, option_fits}
use Rattle.settings.specs.SettingsLimits.{narrow_fits, settings_fit}
use Rattle.settings.specs.SettingsLimitsClaims.{SettingsFitting}
use Rattle.settings.specs.declared.tolerance.Tolerance.{Tolerance}
use Rattle.settings.specs.declared.tolerance.Tolerance.TheVariants.{Given, Absent}

-- A float that is finite and not negative.
record Good (x : Float) : Type 0 where
  x_finite : T (finite x)
  low : T (le zero32 x)

-- The larger of two floats is good where the first is finite and the second good.
larger_good : (x y : Float) → T (finite x) → Good y → Good (larger x y)
larger_good x y f g = by (lt x y) refl
  where
    by : (b : Bool) → lt x y ≡ b → Good (cond b y x)
    by true e = g
    by false e = record { x_finite = f; low = le_through zero32 y x g.low (not_lt x y (finite_number x f) (finite_number y g.x_finite) e) }

-- The smaller of two good floats is good.
smaller_good : (x y : Float) → Good x → Good y → Good (smaller x y)
smaller_good x y f g = by (lt y x)
  where
    by : (b : Bool) → Good (cond b y x)
    by true = g
    by false = f

wanted_good : (own : Tolerance) (table : Float) → T (option_fits own) → Good table → Good (wanted_of own table)
wanted_good (Given x) table f g = larger_good x table f g
wanted_good Absent table f g = g

-- 8 divided by a number of bins lies from 0 to 8.
eight_over : (bins : ℕ) → 0 < bins → bins ≤ 4096 → In zero32 (fin false 1 (pos 3)) (div binary32 eight (bins32 bins))
unfolding of_bits div le
eight_over bins b h =
    let v = bins_value bins h in
    let i : In one32 (fin false 1 (pos 12)) (bins32 bins) = record {
      low = le_of_values one32 (bins32 bins) 1 1 bins 1 (lit≤ tt) (lit≤ tt) (refl, refl) v (omega arith);
      high = le_of_values (bins32 bins) (fin false 1 (pos 12)) bins 1 4096 1 (lit≤ tt) (lit≤ tt) v (refl, refl) (omega arith);
    } in
    in_wider zero32 (fin false 1 (pos 3)) tt tt
    (in_div binary32 {b = fin false 1 (pos 3)} {d = one32} {x = fin false 1 (pos 3)} tt tt (record { low = tt; high = tt }) {e = fin false 1 (pos 12)} tt tt i)

tolerance_good : (own : Tolerance) (table : Float) (bins : ℕ) → T (option_fits own) → Good table → 0 < bins → bins ≤ 4096 → Good (tolerance_of own table bins)
unfolding tolerance_of
tolerance_good own table bins f g b h =
    let i = eight_over bins b h in
    smaller_good (wanted_of own table) (ceiling_of table bins) (wanted_good own table f g)
    (larger_good (div binary32 eight (bins32 bins)) table (in_finite {a = zero32} {b = fin false 1 (pos 3)} tt tt i) g)

pub settings_fitting : SettingsFitting
unfolding settings_fit narrow_fits
settings_fitting bins stars table radius own field t =
    let a = leb 1 bins && leb bins 4096 in
    let b = leb stars 64 in
    let c = le zero32 table && le table one32 in
    let d = finite radius && le zero32 radius in
    let e = option_fits own && option_fits field in
    let f = narrow_fits own table bins in
    let t5 : T (a && b && c && d && e && f) = holds _ t in
    let t4 : T (a && b && c && d && e) = and_l (a && b && c && d && e) f t5 in
    let t3 : T (a && b && c && d) = and_l (a && b && c && d) e t4 in
    let t2 : T (a && b && c) = and_l (a && b && c) d t3 in
    let t1 : T (a && b) = and_l (a && b) c t2 in
    let ta : T a = and_l a b t1 in
    let tc : T c = and_r (a && b) c t2 in
    let td : T d = and_r (a && b && c) d t3 in
    let te : T e = and_r (a && b && c && d) e t4 in
    let some : 1 ≤ bins = leb→le 1 bins (and_l (leb 1 bins) (leb bins 4096) ta) in
    let few : bins ≤ 4096 = leb→le bins 4096 (and_r (leb 1 bins) (leb bins 4096) ta) in
    let own_fits = and_l (option_fits own) (option_fits field) te in
    let low = and_l (le zero32 table) (le table one32) tc in
    let high = and_r (le zero32 table) (le table one32) tc in
    let good = tolerance_good own table bins own_fits (record { x_finite = finite_between zero32 table one32 tt tt low high; low = low }) some few in
    record {
      few_stars = leb→le stars 64 (and_r a b t1);
      table_low = low;
      table_high = high;
      radius_finite = and_l (finite radius) (le zero32 radius) td;
      radius_low = and_r (finite radius) (le zero32 radius) td;
      own_fits = own_fits;
      field_fits = and_r (option_fits own) (option_fits field) te;
      narrow = record { e_finite = good.x_finite; low = good.low; some_bins = some; few_bins = few; product = and_r (a && b && c && d && e) f t5 };
    }
