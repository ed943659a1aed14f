-- The keys in given ranges, in order: "parts never fall from left to right. They are taken by squared distance to the image key, then
-- lexicographically." A key is the list of its five parts. Definitions only. That the list is just this is said in KeysClaims.antt.
use Rattle.std.specs.Prelude.{ℕ, zero, suc, ◌+◌, ◌-◌, ◌*◌, max, cond, List, [], ◌∷◌, ◌++◌, eqb, get_or, set}

-- The lists that f gives for the keys of ks, one after the other.
unfoldable pub concat_map : (List ℕ → List (List ℕ)) → List (List ℕ) → List (List ℕ)
concat_map f [] = []
concat_map f (k ∷ ks) = f k ++ concat_map f ks

-- The key k with each of the n values from a on as its part j.
unfoldable pub run : ℕ → ℕ → ℕ → List ℕ → List (List ℕ)
run j a zero k = []
run j a (suc n) k = run j a n k ++ (set k j (a + n) ∷ [])

-- The key k with each value from lo to hi that is not below its part b as its part j.
unfoldable pub part_values : ℕ → ℕ → ℕ → ℕ → List ℕ → List (List ℕ)
part_values b j lo hi k = run j (max lo (get_or k b 0)) (suc hi - max lo (get_or k b 0)) k

-- Each key of ks with each value of part j, from its lower end to its upper end and not below the part before it. The first part has none before it.
abbrev pub level : ℕ → List ℕ → List ℕ → List (List ℕ) → List (List ℕ)
level j lo hi ks = concat_map (part_values (j - 1) j (get_or lo j 0) (get_or hi j 0)) ks

-- The list of the one key in which the parts are then set.
abbrev pub start : List (List ℕ)
start = (0 ∷ 0 ∷ 0 ∷ 0 ∷ 0 ∷ []) ∷ []

-- Every key with each part i from lo i to hi i that never falls from left to right, in lexicographic order.
unfoldable pub in_range : List ℕ → List ℕ → List (List ℕ)
in_range lo hi = level 4 lo hi (level 3 lo hi (level 2 lo hi (level 1 lo hi (level 0 lo hi start))))

-- The square of the difference of two parts.
unfoldable pub squared_difference : ℕ → ℕ → ℕ
squared_difference x y = (x - y + (y - x)) * (x - y + (y - x))

-- The squared distance of two keys.
unfoldable pub squared_distance : List ℕ → List ℕ → ℕ
squared_distance c k = squared_difference (get_or c 0 0) (get_or k 0 0) + squared_difference (get_or c 1 0) (get_or k 1 0) + squared_difference (get_or c 2 0) (get_or k 2 0) + squared_difference (get_or c 3 0) (get_or k 3 0) + squared_difference (get_or c 4 0) (get_or k 4 0)

-- The list of the key k alone where it is at squared distance d from c, else the empty list.
unfoldable pub at_distance : List ℕ → ℕ → List ℕ → List (List ℕ)
at_distance c d k = cond (eqb (squared_distance c k) d) (k ∷ []) []

-- The keys of ks at squared distance 0 from c, then those at 1, and so on below n.
unfoldable pub nearest_first : List ℕ → List (List ℕ) → ℕ → List (List ℕ)
nearest_first c ks zero = []
nearest_first c ks (suc d) = nearest_first c ks d ++ concat_map (at_distance c d) ks

-- The largest squared difference between part i of c and a value in the range of part i.
unfoldable pub farther : ℕ → List ℕ → List ℕ → List ℕ → ℕ
farther i c lo hi = max (squared_difference (get_or c i 0) (get_or lo i 0)) (squared_difference (get_or c i 0) (get_or hi i 0))

-- A squared distance from c that no key in the ranges exceeds.
unfoldable pub farthest : List ℕ → List ℕ → List ℕ → ℕ
farthest c lo hi = farther 0 c lo hi + farther 1 c lo hi + farther 2 c lo hi + farther 3 c lo hi + farther 4 c lo hi

-- The keys in the ranges by squared distance to c, then lexicographically.
unfoldable pub keys_of : List ℕ → List ℕ → List ℕ → List (List ℕ)
keys_of c lo hi = nearest_first c (in_range lo hi) (suc (farthest c lo hi))
