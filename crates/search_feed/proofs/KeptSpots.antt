-- The kept spots of a pass: their places lie in the brightness list and rise; where questions 1 to 5 are answered yes, their directions give
-- edges and ratios in range. Assumes nothing.
use mathlib.Core.Path.{◌≡◌}
use Prim.Native.Nat.{ℕ, zero, suc, ◌/◌, ◌≤◌, ◌<◌}
use native.Mathlib.Omega.{arith}
use mathlib.Core.Bool.{Bool, true, false, cond}
use mathlib.Core.List.{List, [], ◌∷◌, ◌++◌, map, append-nil}
use lib.IntN.{pos}
use lib.ListN.{length, get_or, take, length-take}
use lib.Ieee.{Float, fin, of_bits, le, lt}
use Rattle.numeric.specs.Value.{zero32}
use Rattle.numeric.specs.Ratios.{Ratios}
use Rattle.numeric.proofs.Tests.{both}
use Rattle.numeric.proofs.Order.{holds}
use Rattle.numeric.proofs.Intervals.{in_wider}
use Rattle.combinations.specs.declared.Combination.{Combination}
use Rattle.combinations.specs.Combinations.{Rising}
use Rattle.combinations.specs.Lists.{All}
use Rattle.combinations.proofs.Lists.{all_append, all_take}
use Rattle.preprocess.specs.UnitVectorsClaims.{Scale, UnitVector}
use Rattle.preprocess.proofs.BrightnessList.{places_have_centroids}
use Rattle.preprocess.proofs.UnitVectors.{centroid_vectors}
use Rattle.settings.specs.PassLimits.{scale_fits}
use Rattle.settings.specs.Passes.{pass_at}
use Rattle.settings.proofs.PassLimits.{passes_fitting}
use Rattle.thinning.specs.Separation.{too_close}
use Rattle.thinning.specs.KeptList.{thinned, kept_of}
use Rattle.pattern.specs.Directions.{Direction, Directions}
use Rattle.pattern.proofs.EdgesLaws.{edges_rise, directions_ratios}
use Rattle.search_feed.specs.Data.{Frame}
use Rattle.search_feed.specs.Image.{spot_of, kept_places, kept_place, directions_of, image_of}
use Rattle.search_feed.specs.Claims.{FrameFits, KeptEdges}

-- ---- Kept places are places of the brightness list.
thinned_below : (c : Float) (spot : ℕ → List Float) (n m : ℕ) → n ≤ m → All (λ p. p < m) (thinned c spot n)
unfolding thinned
thinned_below c spot zero m h = tt
thinned_below c spot (suc n) m h = all_append (λ p. p < m) (thinned c spot n) _ (thinned_below c spot n m (omega arith)) (by (too_close c (spot n) (map spot (thinned c spot n))))
  where
    by : (b : Bool) → All (λ p. p < m) (cond b [] (n ∷ []))
    by true = tt
    by false = (omega arith, tt)

all_at : {A : Type 0} (P : A → Type 0) (xs : List A) (d : A) (i : ℕ) → All P xs → i < length xs → P (get_or xs i d)
all_at P [] d i h l = absurd (omega arith)
all_at P (x ∷ xs) d zero h l = h.0
all_at P (x ∷ xs) d (suc i) h l = all_at P xs d i h.1 (omega arith)

pub place_below : (F : Frame) (i x : ℕ) → x < length (kept_places F i) → kept_place F i x < length F.order
unfolding kept_places kept_of
place_below F i x l =
    all_at (λ p. p < length F.order) (kept_places F i) 0 x
    (all_take (λ p. p < length F.order) F.config.checking (thinned (pass_at F.passes i).cosine (spot_of F i) (length F.order))
    (thinned_below (pass_at F.passes i).cosine (spot_of F i) (length F.order) (length F.order) (omega arith)))
    l

-- ---- Kept places rise.
abbrev Up : List ℕ → Type 0
Up [] = Unit {0}
Up (x ∷ xs) = All (λ y. x < y) xs × Up xs

up_last : (xs : List ℕ) (n : ℕ) → Up xs → All (λ p. p < n) xs → Up (xs ++ n ∷ [])
up_last [] n u h = (tt, tt)
up_last (x ∷ xs) n u h = (all_append (λ y. x < y) xs (n ∷ []) u.0 (h.0, tt), up_last xs n u.1 h.1)

up_take : (n : ℕ) (xs : List ℕ) → Up xs → Up (take n xs)
up_take zero xs u = tt
up_take (suc n) [] u = tt
up_take (suc n) (x ∷ xs) u = (all_take (λ y. x < y) n xs u.0, up_take n xs u.1)

up_at : (xs : List ℕ) (i j : ℕ) → Up xs → i < j → j < length xs → get_or xs i 0 < get_or xs j 0
up_at [] i j u h l = absurd (omega arith)
up_at (x ∷ xs) i zero u h l = absurd (omega arith)
up_at (x ∷ xs) zero (suc j) u h l = all_at (λ y. x < y) xs 0 j u.0 (omega arith)
up_at (x ∷ xs) (suc i) (suc j) u h l = up_at xs i j u.1 (omega arith) (omega arith)

thinned_up : (c : Float) (spot : ℕ → List Float) (n : ℕ) → Up (thinned c spot n)
unfolding thinned
thinned_up c spot zero = tt
thinned_up c spot (suc n) = by (too_close c (spot n) (map spot (thinned c spot n))) (thinned_up c spot n)
  where
    by : (b : Bool) → Up (thinned c spot n) → Up (thinned c spot n ++ cond b [] (n ∷ []))
    by true u = rw append-nil u
    by false u = up_last (thinned c spot n) n u (thinned_below c spot n n (omega arith))

pub place_rises : (F : Frame) (i x y : ℕ) → x < y → y < length (kept_places F i) → kept_place F i x < kept_place F i y
unfolding kept_places kept_of
place_rises F i x y h l = up_at (kept_places F i) x y (up_take F.config.checking _ (thinned_up (pass_at F.passes i).cosine (spot_of F i) (length F.order))) h l

pub kept_few : (F : Frame) (i : ℕ) → length (kept_places F i) ≤ F.config.checking
unfolding kept_places kept_of
kept_few F i = omega (arith, length-take F.config.checking (thinned (pass_at F.passes i).cosine (spot_of F i) (length F.order)))

-- ---- The directions of kept spots.
scale_of : (x : Float) → scale_fits x ≡ true → Scale x
unfolding scale_fits of_bits
scale_of x h = let p = both (lt zero32 x) (le x (fin false 1 (pos 4))) h in record { above = holds _ p.0; most = holds _ p.1 }

small_of : (v : List Float) → UnitVector v → Direction v
unfolding le
small_of v u = record { x = u.x; y = u.y; z = in_wider (fin true 1 (pos 20)) (fin false 1 (pos 20)) tt tt u.z }

pub image_ratios_of : (v : List (List Float)) → Directions v → Ratios (image_of v).ratios
unfolding image_of
image_ratios_of v d = directions_ratios v d

module _ (F : Frame) (a : FrameFits F) (i : ℕ) (h : i < length F.passes / 3) where
  spot_small : (p : ℕ) → p < length F.order → Direction (spot_of F i p)
  spot_small p l =
      small_of _ (centroid_vectors F.centroids _ (pass_at F.passes i).scale a.two
      (places_have_centroids F.order F.centroids (record { 0 = p }) a.three l)
      (scale_of _ ((passes_fitting F.passes a.five).scales i h)))

  kept_small : (x : ℕ) → x < length (kept_places F i) → Direction (spot_of F i (kept_place F i x))
  kept_small x l = spot_small (kept_place F i x) (place_below F i x l)

  pub directions_small : (q : Combination) → Rising (length (kept_places F i)) q → Directions (directions_of F i q)
  unfolding directions_of
  directions_small q r =
      record {
        first = kept_small q.a (omega (arith, r.ab, r.bc, r.cd, r.dn));
        second = kept_small q.b (omega (arith, r.bc, r.cd, r.dn));
        third = kept_small q.c (omega (arith, r.cd, r.dn));
        fourth = kept_small q.d r.dn;
      }

  pub image_ratios : (q : Combination) → Rising (length (kept_places F i)) q → Ratios (image_of (directions_of F i q)).ratios
  image_ratios q r = image_ratios_of (directions_of F i q) (directions_small q r)

pub kept_edges : KeptEdges
kept_edges F a i h q r = let e = edges_rise (directions_of F i q) (directions_small F a i h q r) in (e.0, e.1, image_ratios F a i h q r)
