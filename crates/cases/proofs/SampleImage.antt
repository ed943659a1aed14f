-- The image of the example's frame: its four kept spots, their edges and their ratios. Assumes nothing.
use mathlib.Core.Path.{◌≡◌, refl}
use Prim.Native.Nat.{ℕ, suc, ◌^◌}
use mathlib.Core.Bool.{false}
use mathlib.Core.List.{List, [], ◌∷◌, ◌++◌, map}
use lib.IntN.{pos, negsuc}
use lib.Ieee.{Float, fin, of_bits, odd, add, sub, mul, div, lt}
use Rattle.numeric.specs.Value.{zero32, one32}
use Rattle.square_root.specs.Root.{root_of}
use Rattle.square_root.proofs.Examples.{root_is, right}
use Rattle.square_root.proofs.Laws.{root_plus_zero}
use Rattle.arc.specs.Arc.{arc_of}
use Rattle.pattern.specs.Sort.{insert, inserted, sorted}
use Rattle.pattern.specs.Edges.{squared_distance, angle_of, angle, angles, edges_of, divided_by_largest, ratios_of}
use Rattle.preprocess.specs.UnitVectors.{norm_of, over_norm, unit_of, vector_of}
use Rattle.preprocess.specs.BrightnessList.{centroid_of}
use Rattle.settings.specs.Passes.{pass_at}
use Rattle.thinning.specs.Separation.{dot, too_close}
use Rattle.thinning.specs.KeptList.{thinned, kept_of}
use Rattle.candidates.specs.declared.entry_tests.Image.{Image}
use Rattle.combinations.specs.declared.Combination.{Combination}
use Rattle.search_feed.specs.Image.{spot_of, kept_places, directions_of, image_of, image_at}
use Rattle.cases.specs.Demand3Example.{small, frame}

-- ---- The roots that occur: that of a norm, where 1 plus the square of 2^-13 rounds to 1, and that of a distance.
root_one : root_of one32 ≡ one32
unfolding right odd
root_one = root_is 0 (pos 0) (2 ^ 46) 126 (2 ^ 23) tt

root_small : root_of (fin false 1 (negsuc 25)) ≡ small
unfolding right odd
root_small = root_is 0 (negsuc 25) (2 ^ 46) 113 (2 ^ 23) tt

-- ---- The directions: A of the first three spots, and B of the fourth.
abbrev pub A : List Float
A = zero32 ∷ zero32 ∷ one32 ∷ []

abbrev pub B : List Float
B = small ∷ zero32 ∷ one32 ∷ []

-- ---- All four spots are kept, since no dot product is above 1.
abbrev spots : ℕ → List Float
spots = spot_of frame 0

one_more : (n : ℕ) (ks : List ℕ) → thinned one32 spots n ≡ ks → too_close one32 (spots n) (map spots ks) ≡ false → thinned one32 spots (suc n) ≡ ks ++ n ∷ []
unfolding thinned
one_more n ks e f = rw (e, f)

kept_four : thinned one32 spots 4 ≡ 0 ∷ 1 ∷ 2 ∷ 3 ∷ []
unfolding thinned too_close dot vector_of unit_of over_norm norm_of centroid_of pass_at add mul div lt of_bits
kept_four = one_more 3 (0 ∷ 1 ∷ 2 ∷ []) (one_more 2 (0 ∷ 1 ∷ []) (one_more 1 (0 ∷ []) refl (rw root_one)) (rw root_one)) (rw root_one)

pub kept_all : kept_places frame 0 ≡ 0 ∷ 1 ∷ 2 ∷ 3 ∷ []
unfolding kept_places kept_of pass_at
kept_all = rw kept_four

-- ---- The edges.
edge_none : angle A A ≡ zero32
unfolding squared_distance angle_of arc_of sub add mul lt of_bits
edge_none = rw (root_plus_zero false)

edge_small : angle A B ≡ small
unfolding squared_distance angle_of arc_of sub add mul lt of_bits
edge_small = rw root_small

-- The four directions, which are those of the spots and those of the entry's stars.
abbrev pub four : List (List Float)
four = A ∷ A ∷ A ∷ B ∷ []

pub edges_are : edges_of four ≡ zero32 ∷ zero32 ∷ zero32 ∷ small ∷ small ∷ small ∷ []
unfolding edges_of angles sorted inserted insert lt
edges_are = rw (edge_none, edge_small)

abbrev pub ratios : List Float
ratios = zero32 ∷ zero32 ∷ zero32 ∷ one32 ∷ one32 ∷ []

pub ratios_are : ratios_of (edges_of four) ≡ ratios
unfolding ratios_of divided_by_largest lt div of_bits
ratios_are = rw edges_are

abbrev pub image : Image
image = record { edge = small; ratios = ratios }

abbrev pub q : Combination
q = record { a = 0; b = 1; c = 2; d = 3 }

pub image_is : image_at frame 0 q ≡ image
unfolding directions_of image_of vector_of unit_of over_norm norm_of centroid_of pass_at add mul div of_bits
image_is = rw (kept_all, root_one, ratios_are, edges_are)
