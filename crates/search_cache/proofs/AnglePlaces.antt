-- The index of each angle: it is inside the array and behind the directions, and no two pairs have the same one. Assumes nothing.
use mathlib.Core.Path.{◌≡◌, refl, sym, ap, subst}
use Prim.Native.Nat.{ℕ, zero, suc, ◌+◌, ◌-◌, ◌*◌, ◌/◌, ◌≤◌, ◌<◌}
use native.Mathlib.Omega.{arith}
use native.Mathlib.Decide.{dec_le}
use Rattle.search_cache.specs.AngleArray.{pairs, row_at}

twice_pairs : (j : ℕ) → j * j ≡ 2 * pairs j + j
unfolding pairs
twice_pairs zero = refl
twice_pairs (suc j) = let h = twice_pairs j in omega (arith, h)

pub row_is : (j : ℕ) → 192 + (j * j - j) / 2 ≡ row_at j
row_is j = let h = twice_pairs j in omega (arith, h)

pub square_room : (j : ℕ) → (j ≤ j * j)
square_room j = let h = twice_pairs j in omega (arith, h)

-- The row of a later position begins behind the row of an earlier one.
rows_on : (j d : ℕ) → pairs j + j ≤ pairs (suc (j + d))
unfolding pairs
rows_on j zero = let e : j + 0 ≡ j = omega arith in let p : pairs (j + 0) ≡ pairs j = ap pairs e in omega (arith, p)
rows_on j (suc d) = let h = rows_on j d in let e : j + suc d ≡ suc (j + d) = omega arith in let p : pairs (j + suc d) ≡ pairs (suc (j + d)) = ap pairs e in omega (arith, h, p)

pub row_after : (j k : ℕ) → j < k → pairs j + j ≤ pairs k
row_after j k l = let e : suc (j + (k - suc j)) ≡ k = omega arith in subst (λ x. pairs j + j ≤ pairs x) e (rows_on j (k - suc j))

all_pairs : pairs 64 ≡ 2016
unfolding pairs
all_pairs = refl

pub row_inside : (j : ℕ) → j ≤ 64 → row_at j ≤ 2208
row_inside j l = by (dec_le 64 j)
  where
    by : Dec (64 ≤ j) → row_at j ≤ 2208
    by (yes h) = let e : j ≡ 64 = omega arith in subst (λ x. row_at x ≤ 2208) (sym e) (omega (arith, all_pairs))
    by (no h) = let r = row_after j 64 (omega arith) in omega (arith, r, all_pairs)

pub place_inside : (i j : ℕ) → i < j → j < 64 → row_at j + i < 2208
place_inside i j l p = let r = row_after j 64 p in omega (arith, r, all_pairs)

-- Two pairs with the same index are the same pair.
pub same_place : (i j a b : ℕ) → i < j → a < b → row_at j + i ≡ row_at b + a → (j ≡ b) × (i ≡ a)
same_place i j a b l p e = by (dec_le b j) (dec_le j b)
  where
    by : Dec (b ≤ j) → Dec (j ≤ b) → (j ≡ b) × (i ≡ a)
    by (yes h) (yes k) = let q : j ≡ b = omega arith in (q, let z = subst (λ x. row_at x + i ≡ row_at b + a) q e in omega (arith, z))
    by (yes h) (no k) = absurd (let r = row_after b j (omega arith) in omega (arith, r, e))
    by (no h) k = absurd (let r = row_after j b (omega arith) in omega (arith, r, e))
