-- The laws of the edges and ratios of four directions whose components are finite and of magnitude at most 2 ^ 20.
--   edges_rise         the six edges rise, and each lies from 0 to `pi32`, the f32 nearest to pi, so it is finite
--   edges_permuted     they are the six angles, sorted
--   edge_ratios_rise   the five ratios of such edges rise, and each lies from 0 to 1
--   directions_ratios  the ratios of four such directions are `Ratios`, as the keys ask
-- Assumes nothing.
use Rattle.std.proofs.Common.{◌≡◌, ℕ, zero, suc, ◌<◌, Bool, true, false, cond, T, List, [], ◌∷◌, length, get_or, pos, negsuc, refl, arith}
use lib.Ieee.{Float, nan, fin, binary32, of_bits, add, sub, mul, div, le, lt, fits}
use lib.Ieee.Fits.{div-fits}
use lib.Ieee.Scale.{finite}
use Rattle.square_root.proofs.Laws.{root_not_below, root_finite}
use Rattle.arc.specs.Arc.{half_pi}
use Rattle.arc.proofs.Laws.{arc_in}
use Rattle.numeric.specs.Value.{zero32, one32, pi32}
use Rattle.numeric.specs.MinMax.{smaller}
use Rattle.numeric.specs.Interval.{In}
use Rattle.numeric.specs.Rising.{Rising, rises_none, rises_one, rises, Between, between_none, between}
use Rattle.numeric.specs.Ratios.{Ratio}
use Rattle.numeric.proofs.Order.{holds, le_right, le_through, lt→le, not_lt}
use Rattle.numeric.proofs.TruncationOrder.{smaller_reaches, smaller_right}
use Rattle.numeric.proofs.KeyParts.{ratios_rise_in}
use Rattle.numeric.proofs.Intervals.{in_finite, in_wider, in_add, in_sub, in_mul_up, in_square, mul_nonneg}
use Rattle.numeric.proofs.Risings.{rising_at, between_at}
use Rattle.pattern.specs.Sort.{sorted, Chained, chained_none, chained_one, chained}
use Rattle.pattern.proofs.Sorting.{Each, each_none, each}
use Rattle.pattern.specs.Edges.{squared, squared_distance, distance, angle_of, angle, angles, edges_of, divided_by_largest, zero_ratios, ratios_of}
use Rattle.pattern.specs.Directions.{Small, Direction}
use Rattle.pattern.specs.EdgesClaims.{EdgesRise, EdgesPermuted, EdgeRatiosRise, DirectionsRatios}
use Rattle.pattern.proofs.Insertion.{sorted_length}
use Rattle.pattern.proofs.Sorting.{Comparable, Ready, ready_none, ready, each_map, sorted_perm, sorted_each, sorted_chained}

-- ---- floats sorted upwards
rising_of : {l : List Float} → Chained (λ x y. T (le x y)) l → Rising l
rising_of chained_none = rises_none
rising_of (chained_one x) = rises_one x
rising_of (chained h k) = rises h (rising_of k)

module _ (a b : Float) where
  each_of : {l : List Float} → Between a b l → Each (In a b) l
  each_of between_none = each_none
  each_of (between i k) = each i (each_of k)

  between_of : {l : List Float} → Each (In a b) l → Between a b l
  between_of each_none = between_none
  between_of (each i k) = between i (between_of k)

  comparable : (x y : Float) → In a b x → In a b y → Comparable lt (λ x y. T (le x y)) x y
  comparable x y i j = (λ e. lt→le x y (holds (lt x y) e), λ e. not_lt x y (le_right a x i.low) (le_right a y j.low) e)

  comparables : (seen l : List Float) → Each (In a b) seen → Between a b l → Ready lt (λ x y. T (le x y)) seen l
  comparables seen [] s between_none = ready_none
  comparables seen (x ∷ l) s (between i k) = ready (each_map (λ y j. comparable x y i j) s) (comparables (x ∷ seen) l (each i s) k)

  pub sorted_rises : (l : List Float) → Between a b l → Rising (sorted lt l) × Between a b (sorted lt l)
  sorted_rises l k = (rising_of (sorted_chained lt (λ x y. T (le x y)) l (comparables [] l each_none k)), between_of (sorted_each lt (In a b) l (each_of k)))

pub edges_permuted : EdgesPermuted
unfolding edges_of
edges_permuted v = sorted_perm lt (angles v)

-- ---- a distance is finite and not below 0
gap_in : (x y : Float) → Small x → Small y → In zero32 (fin false 1 (pos 42)) (squared (sub binary32 x y))
unfolding sub mul le
gap_in x y i j =
    in_wider zero32 (fin false 1 (pos 42)) tt tt
    (in_square binary32 1 (pos 21) (sub binary32 x y)
    (in_wider (fin true 1 (pos 21)) (fin false 1 (pos 21)) tt tt
    (in_sub binary32 {a = fin true 1 (pos 20)} {b = fin false 1 (pos 20)} {c = fin true 1 (pos 20)} {d = fin false 1 (pos 20)} tt tt tt tt i j)))

sum_in : (x y z : Float) → In zero32 (fin false 1 (pos 42)) x → In zero32 (fin false 1 (pos 42)) y → In zero32 (fin false 1 (pos 42)) z → In zero32 (fin false 1 (pos 44)) (add binary32 (add binary32 x y) z)
unfolding add le
sum_in x y z i j k =
    in_wider zero32 (fin false 1 (pos 44)) tt tt
    (in_add binary32 {a = zero32} {b = fin false 1 (pos 43)} {c = zero32} {d = fin false 1 (pos 42)} tt tt tt tt
    (in_wider zero32 (fin false 1 (pos 43)) tt tt (in_add binary32 {a = zero32} {b = fin false 1 (pos 42)} {c = zero32} {d = fin false 1 (pos 42)} tt tt tt tt i j)) k)

distance_ok : (a b : List Float) → Direction a → Direction b → T (le zero32 (distance a b)) × T (finite (distance a b))
unfolding squared_distance
distance_ok a b p q =
    let g : ℕ → Float = λ i. squared (sub binary32 (get_or a i nan) (get_or b i nan)) in
    let s = sum_in (g 0) (g 1) (g 2) (gap_in (get_or a 0 nan) (get_or b 0 nan) p.x q.x) (gap_in (get_or a 1 nan) (get_or b 1 nan) p.y q.y) (gap_in (get_or a 2 nan) (get_or b 2 nan) p.z q.z) in
    (root_not_below (add binary32 (add binary32 (g 0) (g 1)) (g 2)) s.low, root_finite (add binary32 (add binary32 (g 0) (g 1)) (g 2)) (in_finite tt tt s) s.low)

-- ---- an angle lies from 0 to pi
half_in : (d : Float) → T (le zero32 d) → T (finite d) → In zero32 one32 (smaller (mul binary32 (fin false 1 (negsuc 0)) d) one32)
unfolding le
half_in d h p =
    let x = mul binary32 (fin false 1 (negsuc 0)) d in
    let k = mul_nonneg binary32 (fin false 1 (negsuc 0)) d tt p tt h in
    record { low = smaller_reaches zero32 x one32 k tt; high = smaller_right x one32 (le_right zero32 x k) tt }

angle_within : (d : Float) → T (le zero32 d) → T (finite d) → In zero32 pi32 (angle_of d)
unfolding angle_of of_bits mul le
angle_within d h p =
    let x = smaller (mul binary32 (fin false 1 (negsuc 0)) d) one32 in
    in_wider zero32 pi32 tt tt
    (in_mul_up binary32 {b = fin false 1 (pos 1)} {d = half_pi} {x = fin false 1 (pos 1)} tt tt (record { low = tt; high = tt }) (arc_in x (half_in d h p)))

between_two : (a b : List Float) → Direction a → Direction b → In zero32 pi32 (angle a b)
between_two a b p q = let d = distance_ok a b p q in angle_within (distance a b) d.0 d.1

-- ---- the edges
pub edges_rise : EdgesRise
unfolding edges_of angles
edges_rise v d =
    let r = sorted_rises zero32 pi32 (angles v)
    (between (between_two (get_or v 0 []) (get_or v 1 []) d.first d.second)
    (between (between_two (get_or v 0 []) (get_or v 2 []) d.first d.third)
    (between (between_two (get_or v 0 []) (get_or v 3 []) d.first d.fourth)
    (between (between_two (get_or v 1 []) (get_or v 2 []) d.second d.third)
    (between (between_two (get_or v 1 []) (get_or v 3 []) d.second d.fourth)
    (between (between_two (get_or v 2 []) (get_or v 3 []) d.third d.fourth) between_none)))))) in
    (r.0, r.1, sorted_length lt zero32 (angles v))

-- ---- the ratios
zero_ratios_rise : Rising zero_ratios × Between zero32 one32 zero_ratios
unfolding le
zero_ratios_rise =
    let i : In zero32 one32 zero32 = record { low = tt; high = tt } in
    (rises tt (rises tt (rises tt (rises tt (rises_one zero32)))), between i (between i (between i (between i (between i between_none)))))

divided_by_largest_rise : (e : List Float) → length e ≡ 6 → Rising e → Between zero32 pi32 e → T (lt zero32 (get_or e 5 nan)) → Rising (divided_by_largest e) × Between zero32 one32 (divided_by_largest e)
unfolding divided_by_largest of_bits
divided_by_largest_rise e six r b t =
    let d : ℕ → Float = λ i. div binary32 (get_or e i nan) (get_or e 5 nan) in
    let up : (i : ℕ) → suc i < 6 → T (le (get_or e i nan) (get_or e (suc i) nan)) = λ i h. rising_at e i (omega arith) r in
    let a = ratios_rise_in binary32 (get_or e 0 nan) (get_or e 1 nan) (get_or e 2 nan) (get_or e 3 nan) (get_or e 4 nan) (get_or e 5 nan)
    (between_at zero32 pi32 e 0 (omega arith) b).low (up 0 (omega arith)) (up 1 (omega arith)) (up 2 (omega arith)) (up 3 (omega arith)) (up 4 (omega arith))
    (in_finite {a = zero32} {b = pi32} tt tt (between_at zero32 pi32 e 5 (omega arith) b)) t in
    let l1 = le_through zero32 (d 0) (d 1) a.0 a.1 in
    let l2 = le_through zero32 (d 1) (d 2) l1 a.2 in
    let l3 = le_through zero32 (d 2) (d 3) l2 a.3 in
    let l4 = le_through zero32 (d 3) (d 4) l3 a.4 in
    let u3 = le_through (d 3) (d 4) one32 a.4 a.5 in
    let u2 = le_through (d 2) (d 3) one32 a.3 u3 in
    let u1 = le_through (d 1) (d 2) one32 a.2 u2 in
    let u0 = le_through (d 0) (d 1) one32 a.1 u1 in (
      rises a.1 (rises a.2 (rises a.3 (rises a.4 (rises_one (d 4))))),
      between (record { low = a.0; high = u0 }) (between (record { low = l1; high = u1 }) (between (record { low = l2; high = u2 }) (between (record { low = l3; high = u3 }) (between (record { low = l4; high = a.5 }) between_none)))),
    )

pub edge_ratios_rise : EdgeRatiosRise
unfolding ratios_of
edge_ratios_rise e six r b = go (lt zero32 (get_or e 5 nan)) (λ t. some t)
  where
    some : T (lt zero32 (get_or e 5 nan)) → Rising (divided_by_largest e) × Between zero32 one32 (divided_by_largest e)
    some t = divided_by_largest_rise e six r b t

    go : (t : Bool) → (T t → Rising (divided_by_largest e) × Between zero32 one32 (divided_by_largest e))
        → Rising (cond t (divided_by_largest e) zero_ratios) × Between zero32 one32 (cond t (divided_by_largest e) zero_ratios)
    go true k = k tt
    go false k = zero_ratios_rise

zero_ratio_fit : (i : ℕ) → i < 5 → T (fits binary32 (get_or zero_ratios i nan))
unfolding fits
zero_ratio_fit zero h = tt
zero_ratio_fit (suc zero) h = tt
zero_ratio_fit (suc (suc zero)) h = tt
zero_ratio_fit (suc (suc (suc zero))) h = tt
zero_ratio_fit (suc (suc (suc (suc zero)))) h = tt
zero_ratio_fit (suc (suc (suc (suc (suc i))))) h = tt

divided_fit : (e : List Float) (i : ℕ) → i < 5 → T (fits binary32 (get_or (divided_by_largest e) i nan))
unfolding divided_by_largest
divided_fit e zero h = div-fits binary32 (get_or e 0 nan) (get_or e 5 nan)
divided_fit e (suc zero) h = div-fits binary32 (get_or e 1 nan) (get_or e 5 nan)
divided_fit e (suc (suc zero)) h = div-fits binary32 (get_or e 2 nan) (get_or e 5 nan)
divided_fit e (suc (suc (suc zero))) h = div-fits binary32 (get_or e 3 nan) (get_or e 5 nan)
divided_fit e (suc (suc (suc (suc zero)))) h = div-fits binary32 (get_or e 4 nan) (get_or e 5 nan)
divided_fit e (suc (suc (suc (suc (suc i))))) h = absurd (omega arith)

fit_at : (e : List Float) (i : ℕ) → i < 5 → T (fits binary32 (get_or (ratios_of e) i nan))
unfolding ratios_of
fit_at e i h = go (lt zero32 (get_or e 5 nan)) i h
  where
    go : (t : Bool) (i : ℕ) → i < 5 → T (fits binary32 (get_or (cond t (divided_by_largest e) zero_ratios) i nan))
    go true i h = divided_fit e i h
    go false i h = zero_ratio_fit i h

ratios_length : (e : List Float) → length (ratios_of e) ≡ 5
unfolding ratios_of divided_by_largest
ratios_length e = go (lt zero32 (get_or e 5 nan))
  where
    go : (t : Bool) → length (cond t (divided_by_largest e) zero_ratios) ≡ 5
    go true = refl
    go false = refl

pub directions_ratios : DirectionsRatios
directions_ratios v d =
    let e = edges_of v in
    let h = edges_rise v d in
    let r = edge_ratios_rise e h.2 h.0 h.1 in
    let n = ratios_length e in
    let one : (i : ℕ) → i < 5 → Ratio (get_or (ratios_of e) i nan) = λ i k. record { representable = fit_at e i k; unit = between_at zero32 one32 (ratios_of e) i (omega arith) r.1 } in
    record {
      first = one 0 (omega arith);
      second = one 1 (omega arith);
      third = one 2 (omega arith);
      fourth = one 3 (omega arith);
      fifth = one 4 (omega arith);
      rise = (rising_at (ratios_of e) 0 (omega arith) r.0, rising_at (ratios_of e) 1 (omega arith) r.0, rising_at (ratios_of e) 2 (omega arith) r.0, rising_at (ratios_of e) 3 (omega arith) r.0);
    }
