-- The first elements of a lent slice, and an array of equal elements. Definitions only.
use Rattle.std.specs.Prelude.{ℕ, Bool, true, false, List, [], leb, length, take, replicate}

-- The first of two lists where the test holds, else the second.
abbrev pub either : {A : Type 0} → Bool → List A → List A → List A
either true s t = s
either false s t = t

-- The first n elements of a list, or none where it is shorter.
unfoldable pub first_of : {A : Type 0} → ℕ → List A → List A
first_of n s = either (leb n (length s)) (take n s) []

-- A list of n times the same element. It isn't unfolded by itself, so that the checker never works out a long list.
unfoldable pub room : {A : Type 0} → ℕ → A → List A
room n a = replicate n a
