-- The directions in the array are those of the pass's kept spots. Assumes nothing.
use mathlib.Core.Path.{◌≡◌, refl, sym, ap, ◌∙◌}
use Prim.Native.Nat.{ℕ, zero, suc, ◌<◌}
use native.Mathlib.Omega.{arith}
use mathlib.Core.List.{List, [], ◌∷◌, map}
use lib.ListN.{length, get_or, take}
use lib.Seq.{get_or-take}
use lib.Ieee.{Float}
use Rattle.combinations.specs.declared.Combination.{Combination}
use Rattle.combinations.specs.Combinations.{Rising}
use Rattle.preprocess.specs.UnitVectors.{over_norm, unit_of, vector_of}
use Rattle.pattern.proofs.ListsEqual.{same_four}
use Rattle.search_cache.specs.AngleArray.{three_of, direction_at, four_at, DirectionsStored}
use Rattle.search_feed.specs.Data.{Frame}
use Rattle.search_feed.specs.Image.{spot_of, kept_places, kept_place, directions_of}

map_at : {A B : Type 0} (f : A → B) (xs : List A) (d : A) (e : B) (i : ℕ) → i < length xs → get_or (map f xs) i e ≡ f (get_or xs i d)
map_at f [] d e i l = absurd (omega arith)
map_at f (x ∷ xs) d e zero l = refl
map_at f (x ∷ xs) d e (suc i) l = map_at f xs d e i (omega arith)

-- The direction of a spot has three components.
spot_three : (F : Frame) (i p : ℕ) → three_of (spot_of F i p) ≡ spot_of F i p
unfolding over_norm unit_of vector_of
spot_three F i p = refl

-- Where the directions that thinning gave are loaded, the array has the direction of each kept spot.
pub loaded_directions : (F : Frame) (i n : ℕ) (dirs : List (List Float)) (m : List Float) → n ≡ length (kept_places F i) → take n dirs ≡ map (spot_of F i) (kept_places F i) → DirectionsStored dirs n m → (x : ℕ) → x < n → direction_at m x ≡ spot_of F i (kept_place F i x)
loaded_directions F i n dirs m c e l x p =
    let s : get_or dirs x [] ≡ spot_of F i (kept_place F i x) = sym (get_or-take n dirs x [] p) ∙ ap (λ z. get_or z x []) e ∙ map_at (spot_of F i) (kept_places F i) 0 [] x (omega arith) in
    l.directions x p ∙ ap three_of s ∙ spot_three F i (kept_place F i x)

-- The array has the directions of the four spots of a combination.
pub cached_directions : (F : Frame) (i n : ℕ) (m : List Float) → ((x : ℕ) → x < n → direction_at m x ≡ spot_of F i (kept_place F i x)) → (q : Combination) → Rising n q → four_at m q ≡ directions_of F i q
unfolding directions_of
cached_directions F i n m d q r =
    same_four
    (d q.a (omega (arith, r.ab, r.bc, r.cd, r.dn)))
    (d q.b (omega (arith, r.bc, r.cd, r.dn)))
    (d q.c (omega (arith, r.cd, r.dn)))
    (d q.d r.dn)
