-- Laws of `every` and of the conjunction of two tests. Assumes nothing.
use Prim.Native.Nat.{ℕ, zero, suc, ◌+◌, ◌<◌}
use mathlib.Core.Path.{◌≡◌, refl, ap, ap₂, ◌∙◌}
use mathlib.Core.Bool.{Bool, true, false, ◌&&◌, and-true}
use mathlib.Core.Logic.{◌⊎◌, inl, inr}
use native.Mathlib.Omega.{arith}
use native.Mathlib.Numerals.{add-one}
use borrow.Author.Tests.{eqb-true, eqb-false}
use lib.Dec.{eqb}
pub use Rattle.numeric.proofs.Tests.{both_l, both_r, both}
use Rattle.std.specs.List.{list_all, range_with_len}
use Rattle.numeric.proofs.AllBelow.{all_more}
use Rattle.pattern_entry.specs.FirstNo.{every}

pub every_suc : (n : ℕ) (p : ℕ → Bool) → every (n + 1) p ≡ (every n p && p n)
unfolding every
every_suc n p = rw add-one

pub every_none : (p : ℕ → Bool) → every 0 p ≡ true
unfolding every
every_none p = refl

pub every_more : (n : ℕ) (p : ℕ → Bool) → every n p ≡ true → p n ≡ true → every (n + 1) p ≡ true
every_more n p a f = every_suc n p ∙ simp (a, f)

-- What `all` says of three tests.
pub all_three : (a b c : Bool) → (a && (b && (c && true))) ≡ (a && (b && c))
all_three a b c = ap (λ (z : Bool). a && (b && z)) (and-true c)

last_or : {i n : ℕ} → i < suc n → (i < n) ⊎ (i ≡ n)
last_or {i} {n} h = by_test (eqb i n) refl
  where
    by_test : (b : Bool) → eqb i n ≡ b → (i < n) ⊎ (i ≡ n)
    by_test true e = inr (eqb-true i n e)
    by_test false e = inl (let d = eqb-false i n e in omega arith)

pub every_at : (n : ℕ) (p : ℕ → Bool) → every n p ≡ true → (i : ℕ) → i < n → p i ≡ true
unfolding every
every_at zero p h i l = absurd (omega arith)
every_at (suc n) p h i l = go (every_at n p (both_l (every n p) (p n) h) i) (last_or l)
  where
    go : (i < n → p i ≡ true) → (i < n) ⊎ (i ≡ n) → p i ≡ true
    go below (inl m) = below m
    go below (inr e) = rw e (both_r (every n p) (p n) h)

pub every_fails : (n : ℕ) (p : ℕ → Bool) (i : ℕ) → i < n → p i ≡ false → every n p ≡ false
every_fails n p i l f = by_test (every n p) refl
  where
    by_test : (b : Bool) → every n p ≡ b → every n p ≡ false
    by_test true e = let z = every_at n p e i l in cc
    by_test false e = e

-- Two properties that agree below n give the same answer.
pub every_same : (n : ℕ) (p q : ℕ → Bool) → ((i : ℕ) → i < n → p i ≡ q i) → every n p ≡ every n q
unfolding every
every_same zero p q h = refl
every_same (suc n) p q h = ap₂ ◌&&◌ (every_same n p q (λ i l. h i (omega arith))) (h n (omega arith))

-- What `all` says of the numbers below n.
pub every_is : (p : ℕ → Bool) (n : ℕ) → list_all p (range_with_len 0 n) ≡ every n p
unfolding every
every_is p zero = refl
every_is p (suc n) = all_more p n ∙ ap (◌&& p n) (every_is p n)
