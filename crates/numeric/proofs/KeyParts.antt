-- Laws of a pattern's key. The ratios of sorted edges rise from 0 to 1, the image key lies in the range of keys, and its parts never fall.
-- Assumes nothing.
use Rattle.std.proofs.Common.{◌≡◌, ℕ, zero, suc, ◌^◌, ◌<◌, ◌≤◌, true, false, T, ltb, ℤ, pos, sym, subst, le_trans, le_of_eq, le_antisymm, arith, lit≤, le→leb, lt→ltb}
use lib.Ieee.{Float, nan, inf, fin, Format, binary32, add, sub, mul, div, le, lt, fits, to_unsigned, of_int, in_float}
use lib.Ieee.Fits.{of_int-fits}
use lib.Ieee.Scale.{finite}
use lib.Ieee.Exact.{HasValue}
use lib.Ieee.Back.{round_whole, unsigned_back}
use lib.Ieee.Positive.{positive, positive-finite, positive_of_value}
use Rattle.numeric.specs.Value.{zero32}
use Rattle.numeric.proofs.Order.{finite_number, le_same, le_through, lt→strictly}
use Rattle.numeric.proofs.Operations.{div_mono, sub_mono}
use Rattle.numeric.specs.Value.{one32}
use Rattle.numeric.proofs.Bounds.{finite_between, sub_below, add_above, mul_scale, mul_within, div_nonneg, div_at_most_one, add_number, mul_number, mul_by_one}
use Rattle.numeric.specs.MinMax.{larger, smaller}
use Rattle.numeric.proofs.TruncationOrder.{truncation_mono, cut_larger, smaller_reaches, smaller_right}
use Rattle.numeric.specs.KeyPart.{bins32}
use Rattle.numeric.specs.Claims.{RatiosRise, ImagePartInRange, PartsNeverFall, PartOfOne}

-- ---- the ratios of sorted edges
pub above_zero : (y : Float) → T (finite y) → T (lt zero32 y) → T (positive y)
unfolding lt
above_zero nan p h = absurd p
above_zero (inf s) p h = absurd p
above_zero (fin true n d) p h = absurd h
above_zero (fin false n d) p h = grow n d h
  where
    grow : (n : ℕ) (d : ℤ) → T (lt zero32 (fin false n d)) → T (ltb 0 n)
    grow zero d h = let k = lt→strictly zero32 (fin false zero d) tt tt h in lt→ltb 0 0 (omega arith)
    grow (suc n) d h = lt→ltb 0 (suc n) (omega arith)

-- The ratios of an edge x and of the next edge y are in order, where g is the largest edge.
pub ratio_mono : (f : Format) (x y g : Float) → T (le zero32 x) → T (le x y) → T (le y g) → T (finite g) → T (lt zero32 g)
    → T (le zero32 (div f x g)) × T (le (div f x g) (div f y g)) × T (le (div f y g) one32)
ratio_mono f x y g a b c q l =
    let p = above_zero g q l in
    let X = finite_between zero32 x g tt q a (le_through x y g b c) in
    let Y = finite_between zero32 y g tt q (le_through zero32 x y a b) c in
    (div_nonneg f x g X p a, div_mono f x y g X Y p b, div_at_most_one f y g Y p c)

pub ratios_rise_in : (f : Format) (e0 e1 e2 e3 e4 e5 : Float) → T (le zero32 e0) → T (le e0 e1) → T (le e1 e2) → T (le e2 e3) → T (le e3 e4) → T (le e4 e5) → T (finite e5) → T (lt zero32 e5)
    → T (le zero32 (div f e0 e5)) × T (le (div f e0 e5) (div f e1 e5)) × T (le (div f e1 e5) (div f e2 e5)) × T (le (div f e2 e5) (div f e3 e5)) × T (le (div f e3 e5) (div f e4 e5)) × T (le (div f e4 e5) one32)
ratios_rise_in f e0 e1 e2 e3 e4 e5 h0 h1 h2 h3 h4 h5 q l =
    let u3 = le_through e3 e4 e5 h4 h5 in
    let u2 = le_through e2 e3 e5 h3 u3 in
    let u1 = le_through e1 e2 e5 h2 u2 in
    let l1 = le_through zero32 e0 e1 h0 h1 in
    let l2 = le_through zero32 e1 e2 l1 h2 in
    let l3 = le_through zero32 e2 e3 l2 h3 in
    let r01 = ratio_mono f e0 e1 e5 h0 h1 u1 q l in
    let r12 = ratio_mono f e1 e2 e5 l1 h2 u2 q l in
    let r23 = ratio_mono f e2 e3 e5 l2 h3 u3 q l in
    let r34 = ratio_mono f e3 e4 e5 l3 h4 h5 q l in
    (r01.0, r01.1, r12.1, r23.1, r34.1, r34.2)

-- ---- the image key lies in the range of keys, for a width w of the cut and a factor b above zero
pub part_in_range : (f : Format) (w : ℕ) (r e b : Float) → T (fits f r) → T (le zero32 r) → T (le r one32) → T (finite e) → T (le zero32 e) → T (positive b) → T (fits f b)
    → (to_unsigned w (larger (mul f (sub f r e) b) zero32) ≤ to_unsigned w (mul f r b)) × (to_unsigned w (mul f r b) ≤ to_unsigned w (smaller (mul f (add f r e) b) b))
part_in_range f w r e b g h k E i P G =
    let R = finite_between zero32 r one32 tt tt h k in
    let lo = mul_scale f (sub f r e) r b P (sub_below f r e R E g i) in
    let hi = mul_scale f r (add f r e) b P (add_above f r e R E g i) in (
      subst (λ (z : ℕ). z ≤ to_unsigned w (mul f r b)) (sym (cut_larger w (mul f (sub f r e) b))) (truncation_mono w (mul f (sub f r e) b) (mul f r b) lo),
      truncation_mono w (mul f r b) (smaller (mul f (add f r e) b) b) (smaller_reaches (mul f r b) (mul f (add f r e) b) b hi (mul_within f r b R P G k)),
    )

-- ---- parts never fall
pub part_mono : (f : Format) (w : ℕ) (r r' b : Float) → T (le r r') → T (positive b) → to_unsigned w (mul f r b) ≤ to_unsigned w (mul f r' b)
part_mono f w r r' b h P = truncation_mono w (mul f r b) (mul f r' b) (mul_scale f r r' b P h)

pub bins_value : (B : ℕ) → B ≤ 4096 → HasValue (bins32 B) false B 1
unfolding of_int
bins_value B h = round_whole binary32 false B (le_trans h (lit≤ tt))

pub bins_positive : (B : ℕ) → 0 < B → B ≤ 4096 → T (positive (bins32 B))
bins_positive B p h = positive_of_value (bins32 B) B 1 (bins_value B h) p

pub bins_fits : (B : ℕ) → T (fits binary32 (bins32 B))
bins_fits B = of_int-fits binary32 (pos B)

pub bins_cut : (B : ℕ) → B ≤ 4096 → to_unsigned 32 (bins32 B) ≡ B
unfolding in_float
bins_cut B h = (unsigned_back binary32 32 B (le→leb B (2 ^ 24) (le_trans h (lit≤ tt))) (le_trans (bump h) (lit≤ tt))).1
  where
    bump : B ≤ 4096 → suc B ≤ 4097
    bump k = omega arith

pub image_part_in_range : ImagePartInRange
image_part_in_range r e B g h k E i p l = part_in_range binary32 32 r e (bins32 B) g h k E i (bins_positive B p l) (bins_fits B)

pub ratios_rise : RatiosRise
ratios_rise = ratios_rise_in binary32

pub parts_never_fall : PartsNeverFall
parts_never_fall r r' B h p l = part_mono binary32 32 r r' (bins32 B) h (bins_positive B p l)

-- ---- the ends of the range: the lower ones never fall either, none is above bins, and the ratio 1 has the part bins
module _ (f : Format) (w : ℕ) (r r' e b : Float) (R : T (finite r)) (R' : T (finite r')) (E : T (finite e)) (P : T (positive b)) (h : T (le r r')) where
  pub lower_mono : to_unsigned w (larger (mul f (sub f r e) b) zero32) ≤ to_unsigned w (larger (mul f (sub f r' e) b) zero32)
  lower_mono =
      simp cut_larger
      (truncation_mono w (mul f (sub f r e) b) (mul f (sub f r' e) b) (mul_scale f (sub f r e) (sub f r' e) b P (sub_mono f r r' e e R R' E E h (le_same e (finite_number e E)))))

pub upper_at_most : (r e : Float) (B : ℕ) → T (finite r) → T (finite e) → 0 < B → B ≤ 4096 → to_unsigned 32 (smaller (mul binary32 (add binary32 r e) (bins32 B)) (bins32 B)) ≤ B
upper_at_most r e B R E p l =
    let P = bins_positive B p l in
    let x = mul binary32 (add binary32 r e) (bins32 B) in
    le_trans (truncation_mono 32 (smaller x (bins32 B)) (bins32 B) (smaller_right x (bins32 B) (mul_number binary32 (add binary32 r e) (bins32 B) (add_number binary32 r e R E) P) (finite_number (bins32 B) (positive-finite (bins32 B) P))))
    (le_of_eq (bins_cut B l))

pub part_at_most : (r : Float) (B : ℕ) → T (finite r) → T (le r one32) → 0 < B → B ≤ 4096 → to_unsigned 32 (mul binary32 r (bins32 B)) ≤ B
part_at_most r B R k p l = le_trans (truncation_mono 32 (mul binary32 r (bins32 B)) (bins32 B) (mul_within binary32 r (bins32 B) R (bins_positive B p l) (bins_fits B) k)) (le_of_eq (bins_cut B l))

pub part_of_one : PartOfOne
part_of_one B p l =
    let P = bins_positive B p l in
    le_antisymm (part_at_most one32 B tt (le_same one32 tt) p l)
    (le_trans (le_of_eq (sym (bins_cut B l))) (truncation_mono 32 (bins32 B) (mul binary32 one32 (bins32 B)) (mul_by_one binary32 (bins32 B) P (bins_fits B))))
