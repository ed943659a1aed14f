-- The successor on the list of combinations. What it gives is rising and is the next of the list, and most often it is the third position up by one
-- and the fourth down by one. Assumes nothing.
use mathlib.Core.Path.{◌≡◌, subst}
use Prim.Native.Nat.{ℕ, suc, ◌+◌, ◌-◌, ◌*◌, ◌≤◌, ◌<◌, max}
use native.Mathlib.Omega.{arith}
use Rattle.std.specs.Prelude.{Some}
use borrow.Author.Tests.{le-leb, lt-leb}
use Rattle.combinations.specs.Lists.{All, Follows}
use Rattle.combinations.specs.Combinations.{Combination, Rising, combination_list, sum}
use Rattle.combinations.specs.Successor.{with_c, from_b, from_c, first_combination, next_combination}
use Rattle.combinations.specs.Claims.{NextIsNext}
use Rattle.combinations.proofs.Lists.{all_after, follows_is_first, follows_first, follows_mid}
use Rattle.combinations.proofs.EachCombination.{combinations_rise, combinations_all}
use Rattle.combinations.proofs.Enumeration.{enumerates_combinations}

pub next_is_next : NextIsNext
next_is_next n before q after e =
    follows_is_first (next_combination n) after (next_combination n q)
    (follows_mid (next_combination n) before q after (first_combination n) (subst (Follows (next_combination n) (first_combination n)) e (enumerates_combinations n)))

pub first_rising : (n : ℕ) (q : Combination) → first_combination n ≡ Some q → Rising n q
first_rising n q e = follows_first (Rising n) (next_combination n) (combination_list n) (first_combination n) q (enumerates_combinations n) (combinations_rise n) e

pub next_rising : (n : ℕ) (q p : Combination) → Rising n q → next_combination n q ≡ Some p → Rising n p
next_rising n q p r e =
    let m = combinations_all n q r in
    follows_first (Rising n) (next_combination n) m.1 (next_combination n q) p
    (follows_mid (next_combination n) m.0 q m.1 (first_combination n) (subst (Follows (next_combination n) (first_combination n)) m.2 (enumerates_combinations n)))
    (all_after (Rising n) m.0 q m.1 (subst (All (Rising n)) m.2 (combinations_rise n)))
    e

-- For a rising combination the bound that keeps the fourth position below n leaves the next third position at one more.
module _ (n : ℕ) (q : Combination) (r : Rising n q) where
  third : max (suc q.c) (q.a + q.b + q.c + q.d + 1 - (q.a + q.b + n)) ≡ q.c + 1
  third = omega (arith, r.cd, r.dn)

  -- The third position goes up and the fourth down, where they stay apart.
  pub next_within : q.c + 2 < q.d → next_combination n q ≡ Some (record { a = q.a; b = q.b; c = q.c + 1; d = q.d - 1 })
  unfolding next_combination from_c with_c sum
  next_within h =
      let d : q.a + q.b + q.c + q.d - (q.a + q.b + (q.c + 1)) ≡ q.d - 1 = omega arith in
      rw (third, le-leb (q.a + q.b + 2 * (q.c + 1) + 1) (q.a + q.b + q.c + q.d) (omega arith), d)

  -- Otherwise the next second position is tried.
  pub next_past : q.d ≤ q.c + 2 → next_combination n q ≡ from_b n (sum q) q.a (suc q.b)
  unfolding next_combination from_c sum
  next_past h = rw (third, lt-leb (q.a + q.b + 2 * (q.c + 1) + 1) (q.a + q.b + q.c + q.d) (omega arith))
