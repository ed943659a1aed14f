-- Unit vectors under the limits of questions 2 and 5: the norm is at least 1, so the components stay small. Assumes nothing.
use mathlib.Core.Path.{◌≡◌, subst}
use Prim.Native.Nat.{ℕ, ◌+◌, ◌*◌, ◌^◌, ◌≤◌}
use native.Mathlib.Nat.{mul-pos, mul-le-mul_left, mul-le-mul_right}
use native.Mathlib.Omega.{arith}
use mathlib.Core.Bool.{true, false}
use lib.IntN.{pos, negsuc}
use lib.Dec.{T}
use lib.ListN.{get_or}
use lib.Ieee.{Float, nan, fin, binary32, of_bits, odd, add, mul, div, le, fits}
use lib.Ieee.Positive.{positive, positive-finite, den, den_pos, between}
use Rattle.numeric.specs.Value.{zero32, one32}
use Rattle.numeric.proofs.Fraction.{over, under}
use Rattle.numeric.specs.Interval.{In}
use Rattle.numeric.proofs.Order.{le→below, le_through, lt→le}
use Rattle.numeric.proofs.Operations.{mul_rounds_up, div_rounds, nonneg_under, over_pos, dens}
use Rattle.numeric.proofs.Representable.{representable_fits, rounds_le, rounds_ge}
use Rattle.numeric.proofs.Intervals.{in_finite, in_wider, in_self, in_add, in_square}
use Rattle.square_root.specs.Root.{root_of}
use Rattle.square_root.proofs.Laws.{root_mono}
use Rattle.square_root.proofs.Examples.{root_is, right}
use Rattle.preprocess.specs.UnitVectors.{norm_of, over_norm, unit_of, vector_of}
use Rattle.preprocess.specs.UnitVectorsClaims.{Coordinate, Scale, UnitVectors, CentroidVectors}
use Rattle.preprocess.proofs.Coordinates.{coordinates_at}

-- ---- A coordinate times a scale is of magnitude at most 2 ^ 19.
abbrev Scaled : Float → Type 0
Scaled u = In (fin true 1 (pos 19)) (fin false 1 (pos 19)) u

up_to : (ox ux dx os us ds : ℕ) → us ≡ 0 → ox * 1 + 0 * dx ≤ 32768 * dx + ux * 1 → os * 1 + 0 * ds ≤ 16 * ds + us * 1 → ox * os * 1 + 0 * (dx * ds) ≤ 524288 * (dx * ds) + ux * os * 1
up_to ox ux dx os us ds z h k =
    let a = mul-le-mul_right os h in
    let l : os ≤ 16 * ds = omega arith in
    let b = mul-le-mul_left (32768 * dx) l in
    omega arith

down_to : (ox ux dx os us ds : ℕ) → us ≡ 0 → 0 * dx + ux * 1 ≤ ox * 1 + 32768 * dx → os * 1 + 0 * ds ≤ 16 * ds + us * 1 → 0 * (dx * ds) + ux * os * 1 ≤ ox * os * 1 + 524288 * (dx * ds)
down_to ox ux dx os us ds z h k =
    let a = mul-le-mul_right os h in
    let l : os ≤ 16 * ds = omega arith in
    let b = mul-le-mul_left (32768 * dx) l in
    omega arith

scaled_in : (x s : Float) → Coordinate x → Scale s → Scaled (mul binary32 x s)
unfolding fits
scaled_in x s i k =
    let X = in_finite {a = fin true 1 (pos 15)} {b = fin false 1 (pos 15)} tt tt i in
    let S = in_finite {a = zero32} {b = fin false 1 (pos 4)} tt tt (record { low = lt→le zero32 s k.above; high = k.most }) in
    let z = nonneg_under s S (lt→le zero32 s k.above) in
    let r = mul_rounds_up binary32 x s X S z in
    let most = le→below s (fin false 1 (pos 4)) S tt k.most in
    record {
      low =
          rounds_ge binary32 (over x * over s) (under x * over s) (den x * den s) (mul binary32 x s) (fin true 1 (pos 19)) (dens x s) r tt (representable_fits binary32 (fin true 1 (pos 19)) tt tt)
          (down_to (over x) (under x) (den x) (over s) (under s) (den s) z (le→below (fin true 1 (pos 15)) x tt X i.low) most);
      high =
          rounds_le binary32 (over x * over s) (under x * over s) (den x * den s) (mul binary32 x s) (fin false 1 (pos 19)) (dens x s) r tt (representable_fits binary32 (fin false 1 (pos 19)) tt tt)
          (up_to (over x) (under x) (den x) (over s) (under s) (den s) z (le→below x (fin false 1 (pos 15)) X tt i.high) most);
    }

-- ---- The norm lies from 1 to 2 ^ 20.
root_of_one : root_of one32 ≡ one32
unfolding right odd
root_of_one = root_is 0 (pos 0) (2 ^ 46) 126 (2 ^ 23) tt

root_of_large : root_of (fin false 1 (pos 40)) ≡ fin false 1 (pos 20)
unfolding right odd
root_of_large = root_is 0 (pos 40) (2 ^ 46) 146 (2 ^ 23) tt

abbrev Norm : Float → Type 0
Norm n = In one32 (fin false 1 (pos 20)) n

square_in : (u : Float) → Scaled u → In zero32 (fin false 1 (pos 38)) (mul binary32 u u)
unfolding mul le
square_in u i = in_wider zero32 (fin false 1 (pos 38)) tt tt (in_square binary32 1 (pos 19) u i)

sum_in : (u v : Float) → Scaled u → Scaled v → In one32 (fin false 1 (pos 40)) (add binary32 (add binary32 (mul binary32 u u) (mul binary32 v v)) (mul binary32 one32 one32))
unfolding of_bits add mul le
sum_in u v i j =
    in_wider one32 (fin false 1 (pos 40)) tt tt
    (in_add binary32 {a = zero32} {b = fin false 1 (pos 39)} {c = one32} {d = one32} tt tt tt tt
    (in_wider zero32 (fin false 1 (pos 39)) tt tt
    (in_add binary32 {a = zero32} {b = fin false 1 (pos 38)} {c = zero32} {d = fin false 1 (pos 38)} tt tt tt tt (square_in u i) (square_in v j)))
    (in_self one32 tt))

under_one : T (le zero32 one32)
unfolding le
under_one = tt

pub norm_in : (u v : Float) → Scaled u → Scaled v → Norm (norm_of u v)
unfolding norm_of
norm_in u v i j =
    let s = sum_in u v i j in
    let w = add binary32 (add binary32 (mul binary32 u u) (mul binary32 v v)) (mul binary32 one32 one32) in
    record {
      low = subst (λ (y : Float). T (le y (root_of w))) root_of_one (root_mono one32 w under_one s.low);
      high = subst (λ (y : Float). T (le (root_of w) y)) root_of_large (root_mono w (fin false 1 (pos 40)) (le_through zero32 one32 w under_one s.low) s.high);
    }

-- ---- The components of a unit vector.
up_over : (ou uu du on un dn : ℕ) → un ≡ 0 → ou * 1 + 0 * du ≤ 524288 * du + uu * 1 → 1 * dn + un * 1 ≤ on * 1 + 0 * dn → ou * dn * 1 + 0 * (on * du) ≤ 1048576 * (on * du) + uu * dn * 1
up_over ou uu du on un dn z h k =
    let a = mul-le-mul_right dn h in
    let l : dn ≤ on = omega arith in
    let b = mul-le-mul_left (524288 * du) l in
    omega arith

down_over : (ou uu du on un dn : ℕ) → un ≡ 0 → 0 * du + uu * 1 ≤ ou * 1 + 524288 * du → 1 * dn + un * 1 ≤ on * 1 + 0 * dn → 0 * (on * du) + uu * dn * 1 ≤ ou * dn * 1 + 1048576 * (on * du)
down_over ou uu du on un dn z h k =
    let a = mul-le-mul_right dn h in
    let l : dn ≤ on = omega arith in
    let b = mul-le-mul_left (524288 * du) l in
    omega arith

module _ (n : Float) (i : Norm n) where
  norm_positive : T (positive n)
  norm_positive = between one32 n (fin false 1 (pos 20)) tt tt i.low i.high

  norm_under : under n ≡ 0
  norm_under = nonneg_under n (positive-finite n norm_positive) (le_through zero32 one32 n under_one i.low)

  least : 1 * den n + under n * 1 ≤ over n * 1 + 0 * den n
  least = le→below one32 n tt (positive-finite n norm_positive) i.low

  over_in : (u : Float) → Scaled u → In (fin true 1 (pos 20)) (fin false 1 (pos 20)) (div binary32 u n)
  unfolding fits
  over_in u j =
      let U = in_finite {a = fin true 1 (pos 19)} {b = fin false 1 (pos 19)} tt tt j in
      let r = div_rounds binary32 u n U norm_positive in
      let c = mul-pos (over_pos n norm_positive) (den_pos u) in
      record {
        low =
            rounds_ge binary32 (over u * den n) (under u * den n) (over n * den u) (div binary32 u n) (fin true 1 (pos 20)) c r tt (representable_fits binary32 (fin true 1 (pos 20)) tt tt)
            (down_over (over u) (under u) (den u) (over n) (under n) (den n) norm_under (le→below (fin true 1 (pos 19)) u tt U j.low) least);
        high =
            rounds_le binary32 (over u * den n) (under u * den n) (over n * den u) (div binary32 u n) (fin false 1 (pos 20)) c r tt (representable_fits binary32 (fin false 1 (pos 20)) tt tt)
            (up_over (over u) (under u) (den u) (over n) (under n) (den n) norm_under (le→below u (fin false 1 (pos 19)) U tt j.high) least);
      }

  one_over_in : In (fin false 1 (negsuc 19)) one32 (div binary32 one32 n)
  unfolding fits
  one_over_in =
      let r = div_rounds binary32 one32 n tt norm_positive in
      let c = mul-pos (over_pos n norm_positive) (den_pos one32) in
      let most = le→below n (fin false 1 (pos 20)) (positive-finite n norm_positive) tt i.high in
      let z = norm_under in
      let l = least in
      record {
        low = rounds_ge binary32 (over one32 * den n) (under one32 * den n) (over n * den one32) (div binary32 one32 n) (fin false 1 (negsuc 19)) c r tt (representable_fits binary32 (fin false 1 (negsuc 19)) tt tt) (omega arith);
        high = rounds_le binary32 (over one32 * den n) (under one32 * den n) (over n * den one32) (div binary32 one32 n) one32 c r tt (representable_fits binary32 one32 tt tt) (omega arith);
      }

pub unit_vectors : UnitVectors
unfolding unit_of over_norm of_bits
unit_vectors x y s i j k =
    let u = scaled_in x s i k in
    let v = scaled_in y s j k in
    let n = norm_in (mul binary32 x s) (mul binary32 y s) u v in
    record {
      x = over_in (norm_of (mul binary32 x s) (mul binary32 y s)) n (mul binary32 x s) u;
      y = over_in (norm_of (mul binary32 x s) (mul binary32 y s)) n (mul binary32 y s) v;
      z = one_over_in (norm_of (mul binary32 x s) (mul binary32 y s)) n;
    }

pub centroid_vectors : CentroidVectors
unfolding vector_of
centroid_vectors c i s t h k =
    unit_vectors (get_or c (2 * i.0) nan) (get_or c (2 * i.0 + 1) nan) s (coordinates_at c (2 * i.0) t (omega arith)) (coordinates_at c (2 * i.0 + 1) t h) k
