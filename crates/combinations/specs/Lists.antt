-- Lists that are put together from one list for each element, and properties of a list's elements. Definitions only.
use Rattle.std.specs.Prelude.{◌≡◌, ℕ, zero, suc, ◌-◌, List, [], ◌∷◌, ◌++◌}
use Rattle.std.specs.Prelude.{Option, None, Some}

-- The lists that f gives for the elements of a list, in order, joined to one list.
unfoldable pub each : {A B : Type 0} → List A → (A → List B) → List B
each [] f = []
each (x ∷ xs) f = f x ++ each xs f

-- The n numbers from lo on.
unfoldable pub span : ℕ → ℕ → List ℕ
span lo zero = []
span lo (suc n) = lo ∷ span (suc lo) n

-- The numbers from lo on that are below hi.
unfoldable pub upto : ℕ → ℕ → List ℕ
upto lo hi = span lo (hi - lo)

-- P holds of every element.
abbrev pub All : {A : Type 0} → (A → Type 0) → List A → Type 0
All P [] = Unit {0}
All P (x ∷ xs) = P x × All P xs

-- R holds between each element and every later one, not only between neighbours.
abbrev pub Ordered : {A : Type 0} → (A → A → Type 0) → List A → Type 0
Ordered R [] = Unit {0}
Ordered R (x ∷ xs) = All (R x) xs × Ordered R xs

-- The element x is in the list.
abbrev pub In : {A : Type 0} → A → List A → Type 0
In {A} x xs = (pre : List A) × (post : List A) × (xs ≡ pre ++ x ∷ post)

-- The first element of a list, where there is one.
abbrev pub first_of : {A : Type 0} → List A → Option A
first_of [] = None
first_of (x ∷ xs) = Some x

-- A successor enumerates a list: from o on it gives exactly these elements, in order, and then nothing.
abbrev pub Follows : {A : Type 0} → (A → Option A) → Option A → List A → Type 0
Follows next o [] = o ≡ None
Follows next o (x ∷ xs) = (o ≡ Some x) × Follows next (next x) xs
