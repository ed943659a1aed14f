-- Lists of floats that rise, and lists of floats that all lie between two ends. Definitions only.
use Rattle.std.specs.Prelude.{T, List, [], ◌∷◌, Float}
use Rattle.std.specs.Float.Ieee.{le}
use Rattle.numeric.specs.Interval.{In}

-- Each float of the list is at most the next one.
pub data Rising : List Float → Type 0 where
  rises_none : Rising []
  rises_one : (x : Float) → Rising (x ∷ [])
  rises : {x y : Float} {l : List Float} → T (le x y) → Rising (y ∷ l) → Rising (x ∷ y ∷ l)

-- Each float of the list lies from a to b.
pub data Between (a b : Float) : List Float → Type 0 where
  between_none : Between a b []
  between : {x : Float} {l : List Float} → In a b x → Between a b l → Between a b (x ∷ l)
