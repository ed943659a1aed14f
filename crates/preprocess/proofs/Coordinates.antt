-- Question 2: a coordinate is finite and of magnitude at most 32,768 exactly where it lies from -32,768 to 32,768; and a slice of them.
-- Assumes nothing.
use mathlib.Core.Path.{◌≡◌, refl, sym, ◌∙◌}
use Prim.Native.Nat.{ℕ, zero, suc, ◌<◌}
use native.Mathlib.Omega.{arith}
use mathlib.Core.Bool.{Bool, true, false, ◌&&◌}
use mathlib.Core.List.{List, [], ◌∷◌}
use lib.IntN.{pos}
use lib.Dec.{T}
use lib.ListN.{length, get_or}
use lib.Ieee.{Float, nan, inf, fin, le, neg, of_bits}
use lib.Ieee.Fits.{and_l, and_r, and_i}
use Rattle.std.specs.List.{list_all}
use Rattle.numeric.specs.Magnitude.{magnitude_of}
pub use Rattle.numeric.proofs.Tests.{both_l, both_r}
use Rattle.numeric.proofs.Order.{le→below, below→le, holds}
use Rattle.preprocess.specs.Questions.{farthest, coordinate_fits, coordinates_fit}
use Rattle.preprocess.specs.UnitVectorsClaims.{Coordinate}

-- Two tests are equal where each holds if the other does.
same : (a b : Bool) → (T a → T b) → (T b → T a) → a ≡ b
same true true f g = refl
same true false f g = absurd (f tt)
same false true f g = absurd (g tt)
same false false f g = refl

-- The definition is equal to the two comparisons that the code makes.
pub coordinate_is : (x : Float) → coordinate_fits x ≡ (le (neg farthest) x && le x farthest)
unfolding coordinate_fits magnitude_of le neg of_bits
coordinate_is nan = refl
coordinate_is (inf true) = refl
coordinate_is (inf false) = refl
coordinate_is (fin true zero e) =
    same true (le (fin true 1 (pos 15)) (fin true zero e) && le (fin true zero e) (fin false 1 (pos 15)))
    (λ t. and_i (le (fin true 1 (pos 15)) (fin true zero e)) _ (below→le (fin true 1 (pos 15)) (fin true zero e) tt tt (omega arith)) (below→le (fin true zero e) (fin false 1 (pos 15)) tt tt (omega arith)))
    (λ t. tt)
coordinate_is (fin false zero e) =
    same true (le (fin true 1 (pos 15)) (fin false zero e) && le (fin false zero e) (fin false 1 (pos 15)))
    (λ t. and_i (le (fin true 1 (pos 15)) (fin false zero e)) _ (below→le (fin true 1 (pos 15)) (fin false zero e) tt tt (omega arith)) (below→le (fin false zero e) (fin false 1 (pos 15)) tt tt (omega arith)))
    (λ t. tt)
coordinate_is (fin false (suc m) e) =
    let x = fin false (suc m) e in
    same (le x (fin false 1 (pos 15))) (le (fin true 1 (pos 15)) x && le x (fin false 1 (pos 15)))
    (λ t. and_i (le (fin true 1 (pos 15)) x) _ (below→le (fin true 1 (pos 15)) x tt tt (omega arith)) t)
    (λ t. and_r (le (fin true 1 (pos 15)) x) _ t)
coordinate_is (fin true (suc m) e) =
    let x = fin true (suc m) e in
    let y = fin false (suc m) e in
    same (le y (fin false 1 (pos 15))) (le (fin true 1 (pos 15)) x && le x (fin false 1 (pos 15)))
    (λ t. let b = le→below y (fin false 1 (pos 15)) tt tt t in and_i (le (fin true 1 (pos 15)) x) _ (below→le (fin true 1 (pos 15)) x tt tt (omega arith)) (below→le x (fin false 1 (pos 15)) tt tt (omega arith)))
    (λ t. let b = le→below (fin true 1 (pos 15)) x tt tt (and_l (le (fin true 1 (pos 15)) x) _ t) in below→le y (fin false 1 (pos 15)) tt tt (omega arith))

pub coordinate_in : (x : Float) → coordinate_fits x ≡ true → Coordinate x
unfolding neg of_bits
coordinate_in x h =
    let t = holds (le (neg farthest) x && le x farthest) (sym (coordinate_is x) ∙ h) in
    record { low = and_l (le (neg farthest) x) _ t; high = and_r (le (neg farthest) x) _ t }

pub coordinates_at : (c : List Float) (k : ℕ) → coordinates_fit c ≡ true → k < length c → Coordinate (get_or c k nan)
unfolding coordinates_fit
coordinates_at [] k h l = absurd (omega arith)
coordinates_at (x ∷ c) zero h l = coordinate_in x (both_l (coordinate_fits x) (coordinates_fit c) h)
coordinates_at (x ∷ c) (suc k) h l = coordinates_at c k (both_r (coordinate_fits x) (coordinates_fit c) h) (omega arith)

-- ---- The definition, as std's word for what `all` returns.
pub coordinates_are : (xs : List Float) → list_all (λ x. le (neg farthest) x && le x farthest) xs ≡ coordinates_fit xs
unfolding coordinates_fit
coordinates_are [] = refl
coordinates_are (x ∷ xs) = rw (coordinates_are xs, coordinate_is x)
