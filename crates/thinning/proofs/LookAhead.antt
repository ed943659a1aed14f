-- The directions of eight spots, worked out one after another. Assumes nothing.
use mathlib.Core.Path.{◌≡◌, refl, sym, ap, ◌∙◌}
use Prim.Native.Nat.{ℕ, ◌+◌, ◌-◌, ◌%◌, ◌≤◌, ◌<◌}
use mathlib.Core.Bool.{Bool, true, false}
use mathlib.Core.List.{List, []}
use native.Mathlib.Omega.{arith}
use borrow.Author.Tests.{eqb-true, eqb-false}
use lib.Dec.{eqb}
use lib.ListN.{length, get_or, set, length-set}
use lib.Seq.{get_or-set_same, get_or-set_other}
use lib.Ieee.{Float}
use Rattle.thinning.specs.LookAhead.{Ahead}

module _ (spot : ℕ → List Float) (n from : ℕ) where
  pub ahead_none : (ahead : List (List Float)) → length ahead ≡ 8 → Ahead spot n from 0 ahead
  ahead_none ahead l = record { are = λ j h m. absurd (omega arith); long = l }

  module _ (j : ℕ) (ahead : List (List Float)) (a : Ahead spot n from j ahead) where
    -- Nothing is to be stored where the list ends before the next place.
    pub ahead_past : n ≤ from + j → Ahead spot n from (j + 1) ahead
    ahead_past p = record { are = λ i h m. a.are i (omega arith) m; long = a.long }

    -- One more direction is stored.
    pub ahead_more : j < 8 → (v : List Float) → v ≡ spot (from + j) → Ahead spot n from (j + 1) (set ahead j v)
    ahead_more l v e = record { are = λ i h m. by i h m (eqb i j) refl; long = length-set ahead j v ∙ a.long }
      where
        by : (i : ℕ) → i < j + 1 → from + i < n → (b : Bool) → eqb i j ≡ b → get_or (set ahead j v) i [] ≡ spot (from + i)
        by i h m true q = let s : i ≡ j = eqb-true i j q in ap (λ (x : ℕ). get_or (set ahead j v) x []) s ∙ get_or-set_same ahead j v [] (omega (arith, a.long)) ∙ e ∙ ap (λ (x : ℕ). spot (from + x)) (sym s)
        by i h m false q = let d : i ≡ j → ⊥ = eqb-false i j q in get_or-set_other ahead j i v [] d ∙ a.are i (omega arith) m

-- ---- The eight that place i is among, of which the first is the last place up to i that 8 divides.
module _ (spot : ℕ → List Float) (n i : ℕ) (ahead : List (List Float)) where
  pub begun : i % 8 ≡ 0 → Ahead spot n i 8 ahead → Ahead spot n (i - i % 8) 8 ahead
  begun e a = let f : i - i % 8 ≡ i = omega arith in rw f a

  module _ (a : Ahead spot n (i - i % 8) 8 ahead) where
    pub direction_is : i < n → get_or ahead (i % 8) [] ≡ spot i
    direction_is h = let f : i - i % 8 + i % 8 ≡ i = omega arith in a.are (i % 8) (omega arith) (omega arith) ∙ ap spot f

    -- Place i + 1 is among the same eight, unless it begins the next.
    pub goes_on : 0 < (i + 1) % 8 → Ahead spot n (i + 1 - (i + 1) % 8) 8 ahead
    goes_on h = let f : i + 1 - (i + 1) % 8 ≡ i - i % 8 = omega arith in rw f a
