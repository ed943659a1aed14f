-- What `all` says of the five ratios and their limits taken in pairs. Assumes nothing.
use mathlib.Core.Path.{◌≡◌, ap}
use mathlib.Core.Bool.{Bool, true, ◌&&◌, and-true}
use mathlib.Core.List.{List, [], ◌∷◌}
use native.Mathlib.Omega.{arith}
use lib.ListN.{length}
use lib.Ieee.{Float}
use Rattle.std.specs.List.{list_all, zip}
use Rattle.candidates.specs.Comparisons.{inside_one, inside}

all_five : (a b c d e : Bool) → (a && (b && (c && (d && (e && true))))) ≡ (a && (b && (c && (d && e))))
all_five a b c d e = ap (λ (z : Bool). a && (b && (c && (d && z)))) (and-true e)

pub pairs_inside : (r x : List Float) (e : Float) → length r ≡ 5 → length x ≡ 5 → list_all (λ (p : Float × Float). inside_one p.0 e p.1) (zip r x) ≡ inside r e x
unfolding inside
pairs_inside [] x e h k = absurd (omega arith)
pairs_inside (a ∷ []) x e h k = absurd (omega arith)
pairs_inside (a ∷ b ∷ []) x e h k = absurd (omega arith)
pairs_inside (a ∷ b ∷ c ∷ []) x e h k = absurd (omega arith)
pairs_inside (a ∷ b ∷ c ∷ d ∷ []) x e h k = absurd (omega arith)
pairs_inside (a ∷ b ∷ c ∷ d ∷ f ∷ g ∷ r) x e h k = absurd (omega arith)
pairs_inside (a ∷ b ∷ c ∷ d ∷ f ∷ []) [] e h k = absurd (omega arith)
pairs_inside (a ∷ b ∷ c ∷ d ∷ f ∷ []) (p ∷ []) e h k = absurd (omega arith)
pairs_inside (a ∷ b ∷ c ∷ d ∷ f ∷ []) (p ∷ q ∷ []) e h k = absurd (omega arith)
pairs_inside (a ∷ b ∷ c ∷ d ∷ f ∷ []) (p ∷ q ∷ s ∷ []) e h k = absurd (omega arith)
pairs_inside (a ∷ b ∷ c ∷ d ∷ f ∷ []) (p ∷ q ∷ s ∷ t ∷ []) e h k = absurd (omega arith)
pairs_inside (a ∷ b ∷ c ∷ d ∷ f ∷ []) (p ∷ q ∷ s ∷ t ∷ u ∷ v ∷ x) e h k = absurd (omega arith)
pairs_inside (a ∷ b ∷ c ∷ d ∷ f ∷ []) (p ∷ q ∷ s ∷ t ∷ u ∷ []) e h k =
    all_five (inside_one a e p) (inside_one b e q) (inside_one c e s) (inside_one d e t) (inside_one f e u)
