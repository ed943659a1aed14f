-- ".. the next combination worked out from the present one." `EnumeratesCombinations` of Claims.antt says that this enumerates the list of
-- combinations. A difference that would be below 0 is 0. Definitions only.
use Rattle.std.specs.Prelude.{ℕ, suc, ◌+◌, ◌-◌, ◌*◌, max, cond, leb}
use Rattle.std.specs.Prelude.{Option, None, Some}
use Rattle.combinations.specs.Combinations.{Combination, sum}

-- Of the combinations below n with the sum s that begin with a and b, the first whose third position is at least c, where there is one.
-- The fourth is s - (a + b + x), which is below n from the third x = s + 1 - (a + b + n) on.
unfoldable pub with_c : ℕ → ℕ → ℕ → ℕ → ℕ → Combination
with_c n s a b c =
    let x = max c (s + 1 - (a + b + n)) in
    record { a = a; b = b; c = x; d = s - (a + b + x) }

-- Of the combinations below n with the sum s that begin with a, the first whose second position is at least b, where there is one.
-- The third and the fourth add up to at most (n - 2) + (n - 1), so the second is at least s + 3 - (a + 2 n).
unfoldable pub with_b : ℕ → ℕ → ℕ → ℕ → Combination
with_b n s a b =
    let x = max b (s + 3 - (a + 2 * n)) in
    with_c n s a x (suc x)

-- Of the combinations below n with the sum s, the first whose first position is at least a, where there is one.
-- The other three add up to at most (n - 3) + (n - 2) + (n - 1), so the first is at least s + 6 - 3 n.
unfoldable pub with_a : ℕ → ℕ → ℕ → Combination
with_a n s a =
    let x = max a (s + 6 - 3 * n) in
    with_b n s x (suc x)

-- The first combination below n whose sum is s or more. The least sum is 0 + 1 + 2 + 3, the largest is 4 n - (1 + 2 + 3 + 4).
unfoldable pub from_sum : ℕ → ℕ → Option Combination
from_sum n s = cond (leb (max s 6 + 10) (4 * n)) (Some (with_a n (max s 6) 0)) None

-- The first combination with the sum s whose first position is at least a, or else the first with a larger sum. There is one with the sum s
-- where the least sum with that first position, the other positions following one by one, is at most s.
unfoldable pub from_a : ℕ → ℕ → ℕ → Option Combination
from_a n s a = cond (leb (4 * max a (s + 6 - 3 * n) + 6) s) (Some (with_a n s a)) (from_sum n (suc s))

-- The first combination with the sum s that begins with a and whose second position is at least b, or else what `from_a` gives for a + 1.
-- There is one that begins with a where the least sum with that second position is at most s.
unfoldable pub from_b : ℕ → ℕ → ℕ → ℕ → Option Combination
from_b n s a b = cond (leb (a + 3 * max b (s + 3 - (a + 2 * n)) + 3) s) (Some (with_b n s a b)) (from_a n s (suc a))

-- The first combination with the sum s that begins with a and b and whose third position is at least c, or else what `from_b` gives for b + 1.
-- There is one that begins with a and b where the least sum with that third position is at most s.
unfoldable pub from_c : ℕ → ℕ → ℕ → ℕ → ℕ → Option Combination
from_c n s a b c = cond (leb (a + b + 2 * max c (s + 1 - (a + b + n)) + 1) s) (Some (with_c n s a b c)) (from_b n s a (suc b))

-- The first combination below n, where there is one.
unfoldable pub first_combination : ℕ → Option Combination
first_combination n = from_sum n 0

-- The combination after q, where there is one.
unfoldable pub next_combination : ℕ → Combination → Option Combination
next_combination n q = from_c n (sum q) q.a q.b (suc q.c)
