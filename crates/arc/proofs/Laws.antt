-- The law of `arc_of` that callers use, for h from 0 to 1. It does not show the formula.
--   arc_in  the arc lies from 0 to `half_pi`, the f32 nearest to half of pi, so it is finite
-- Assumes nothing.
use mathlib.Core.Path.{◌≡◌, refl}
use mathlib.Core.Bool.{Bool, true, false, cond}
use lib.IntN.{negsuc}
use lib.Dec.{T}
use lib.Ieee.{Float, fin, binary32, of_bits, add, sub, mul, div, le, lt}
use Rattle.square_root.specs.Root.{root_of}
use Rattle.square_root.proofs.Laws.{root_not_below, root_half}
use Rattle.numeric.specs.Value.{zero32, one32, two32, half32, quarter32}
use Rattle.numeric.proofs.Fraction.{number}
use Rattle.numeric.proofs.Order.{le_through, le_right, lt→le, not_lt}
use Rattle.numeric.specs.Interval.{In}
use Rattle.numeric.proofs.Intervals.{in_wider, in_self, in_add, in_sub, in_mul_up, in_mul_down, in_div}
use Rattle.arc.specs.Arc.{tiny, half_pi, p0, p1, p2, q1, rational, corrected, half_one_minus, near_one, arc_of}

abbrev eighth : Float
eighth = fin false 1 (negsuc 2)

-- ---- R, for z from 0 to 0.25: from 0 to 0.125
module _ (z : Float) (i : In zero32 quarter32 z) where
  inner : In (fin true 1 (negsuc 3)) zero32 (add binary32 p1 (mul binary32 z p2))
  unfolding of_bits add mul le
  inner =
      in_wider (fin true 1 (negsuc 3)) zero32 tt tt
      (in_add binary32 {a = p1} {b = p1} {c = mul binary32 quarter32 p2} {d = zero32} tt tt tt tt (in_self p1 tt)
      (in_mul_down binary32 {b = quarter32} {d = p2} tt tt i (record { low = tt; high = tt })))

  outer : In eighth quarter32 (add binary32 p0 (mul binary32 z (add binary32 p1 (mul binary32 z p2))))
  unfolding of_bits add mul le
  outer =
      in_wider eighth quarter32 tt tt
      (in_add binary32 {a = p0} {b = p0} {c = mul binary32 quarter32 (fin true 1 (negsuc 3))} {d = zero32} tt tt tt tt (in_self p0 tt)
      (in_mul_down binary32 {b = quarter32} {d = fin true 1 (negsuc 3)} tt tt i inner))

  above : In zero32 (fin false 1 (negsuc 3)) (mul binary32 z (add binary32 p0 (mul binary32 z (add binary32 p1 (mul binary32 z p2)))))
  unfolding mul le
  above =
      in_wider zero32 (fin false 1 (negsuc 3)) tt tt
      (in_mul_up binary32 {b = quarter32} {d = quarter32} tt tt i (in_wider zero32 quarter32 tt tt outer))

  beneath : In (fin false 3 (negsuc 1)) one32 (add binary32 one32 (mul binary32 z q1))
  unfolding of_bits add mul le
  beneath =
      in_wider (fin false 3 (negsuc 1)) one32 tt tt
      (in_add binary32 {a = one32} {b = one32} {c = mul binary32 quarter32 q1} {d = zero32} tt tt tt tt (in_self one32 tt)
      (in_mul_down binary32 {b = quarter32} {d = q1} tt tt i (record { low = tt; high = tt })))

  rational_in : In zero32 eighth (rational z)
  unfolding rational div le
  rational_in = in_wider zero32 eighth tt tt (in_div binary32 {b = fin false 1 (negsuc 3)} {d = fin false 3 (negsuc 1)} tt tt above {e = one32} tt tt beneath)

-- ---- x + x * R(z), for an x from 0 to 0.5: from 0 to 0.5625
corrected_in : (x z : Float) → In zero32 half32 x → In zero32 quarter32 z → In zero32 (fin false 9 (negsuc 3)) (corrected x z)
unfolding of_bits add mul le
corrected_in x z i j =
    in_wider zero32 (fin false 9 (negsuc 3)) tt tt
    (in_add binary32 {a = zero32} {b = half32} {c = zero32} {d = fin false 1 (negsuc 3)} tt tt tt tt i
    (in_wider zero32 (fin false 1 (negsuc 3)) tt tt (in_mul_up binary32 {b = half32} {d = eighth} tt tt i (rational_in z j))))

-- ---- from 0.5 to 1: from 0.25 to `half_pi`
half_one_minus_in : (h : Float) → In half32 one32 h → In zero32 quarter32 (half_one_minus h)
unfolding of_bits sub mul le
half_one_minus_in h i =
    in_wider zero32 quarter32 tt tt
    (in_mul_up binary32 {b = half32} {d = half32} tt tt (in_wider zero32 half32 tt tt (in_sub binary32 {a = one32} {b = one32} {c = half32} {d = one32} tt tt tt tt (in_self one32 tt) i)) (record { low = tt; high = tt }))

root_in : (z : Float) → In zero32 quarter32 z → In zero32 half32 (root_of z)
unfolding of_bits
root_in z i = record { low = root_not_below z i.low; high = root_half z i.low i.high }

near_one_in : (h : Float) → In half32 one32 h → In quarter32 half_pi (near_one h)
unfolding near_one of_bits sub mul le
near_one_in h i =
    let z = half_one_minus_in h i in
    in_wider quarter32 half_pi tt tt
    (in_sub binary32 {a = half_pi} {b = half_pi} {c = zero32} {d = fin false 9 (negsuc 2)} tt tt tt tt (in_self half_pi tt)
    (in_wider zero32 (fin false 9 (negsuc 2)) tt tt
    (in_mul_up binary32 {b = two32} {d = fin false 9 (negsuc 3)} {x = two32} tt tt (record { low = tt; high = tt }) (corrected_in (root_of (half_one_minus h)) (half_one_minus h) (root_in (half_one_minus h) z) z))))

-- ---- the arc
square_in : (h : Float) → In zero32 half32 h → In zero32 quarter32 (mul binary32 h h)
unfolding of_bits mul le
square_in h i = in_wider zero32 quarter32 tt tt (in_mul_up binary32 {b = half32} {d = half32} tt tt i i)

tiny_small : T (le tiny half_pi)
unfolding le of_bits
tiny_small = tt

mid : {x : Float} → In zero32 (fin false 9 (negsuc 3)) x → In zero32 half_pi x
unfolding le of_bits
mid j = in_wider zero32 half_pi tt tt j

end : {x : Float} → In quarter32 half_pi x → In zero32 half_pi x
unfolding le of_bits
end j = in_wider zero32 half_pi tt tt j

module _ (h : Float) (i : In zero32 one32 h) where
  low_half : In tiny half32 h → In zero32 half32 h
  low_half j = record { low = i.low; high = j.high }

  -- A law that holds in each of the three pieces holds of the arc.
  three : (P : Float → Type 0) → (T (lt h tiny) → P h) → (In tiny half32 h → P (corrected h (mul binary32 h h))) → (In half32 one32 h → P (near_one h)) → P (arc_of h)
  unfolding arc_of of_bits
  three P p q r = go (lt h tiny) (lt h half32) p (λ k. not_lt h tiny N tt k) (λ t. lt→le h half32 t) (λ k. not_lt h half32 N tt k)
    where
      N : T (number h)
      N = le_right zero32 h i.low

      go : (s t : Bool) → (T s → P h) → (s ≡ false → T (le tiny h)) → (T t → T (le h half32)) → (t ≡ false → T (le half32 h)) → P (cond s h (cond t (corrected h (mul binary32 h h)) (near_one h)))
      go true t a b c d = a tt
      go false true a b c d = q (record { low = b refl; high = c tt })
      go false false a b c d = r (record { low = d refl; high = i.high })

  pub arc_in : In zero32 half_pi (arc_of h)
  arc_in =
      three (λ (x : Float). In zero32 half_pi x)
      (λ t. record { low = i.low; high = le_through h tiny half_pi (lt→le h tiny t) tiny_small })
      (λ j. mid (corrected_in h (mul binary32 h h) (low_half j) (square_in h (low_half j))))
      (λ j. end (near_one_in h j))
