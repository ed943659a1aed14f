-- `count` of a test that the first q numbers pass and no other is q. So `nearest_root` is the q with (q - 1/2)² < n ≤ (q + 1/2)². Assumes nothing.
use mathlib.Core.Path.{◌≡◌, refl, sym, ap, ◌∙◌, subst}
use mathlib.Core.Logic.{◌⊎◌, inl, inr}
use Prim.Native.Nat.{ℕ, zero, suc, ◌+◌, ◌*◌, ◌^◌, ◌≤◌, ◌<◌, zero-le}
use native.Mathlib.Nat.{le_of_eq, le_trans, le_of_lt, lt_of_lt_of_le, eq-or-lt_of_le, le_of_suc-le-suc, lt-suc_self, le_antisymm, mul_assoc, mul-lt-mul_of_pos_right, mul-le-mul_right, one-le-pow, zero-lt-suc}
use mathlib.Core.Bool.{Bool, not, cond}
use lib.Dec.{T, lt→ltb}
use lib.Arith.{le→nltb}
use lib.Ieee.Bits.{is_true, is_false}
use Rattle.square_root.specs.Root.{count, mid_below, nearest_root}
use Rattle.square_root.proofs.Squares.{mids_below, mids_above}

pub count_suc : (p : ℕ → Bool) (n : ℕ) → count p (suc n) ≡ cond (p n) (suc (count p n)) (count p n)
unfolding count
count_suc p n = refl

pub count_zero : (p : ℕ → Bool) → count p zero ≡ zero
unfolding count
count_zero p = refl

-- all of the first n pass
count_all : (p : ℕ → Bool) (n : ℕ) → ((k : ℕ) → k < n → T (p k)) → count p n ≡ n
count_all p zero h = count_zero p
count_all p (suc n) h =
    count_suc p n
    ∙ ap (λ (b : Bool). cond b (suc (count p n)) (count p n)) (is_true (p n) (h n (lt-suc_self n)))
    ∙ ap suc (count_all p n (λ k l. h k (le_trans l (le_of_lt (lt-suc_self n)))))

pub count_is : (p : ℕ → Bool) (q n : ℕ) → q ≤ n → ((k : ℕ) → k < q → T (p k)) → ((k : ℕ) → q ≤ k → T (not (p k))) → count p n ≡ q
count_is p q zero l pass fail = count_zero p ∙ sym (le_antisymm l zero-le)
count_is p q (suc n) l pass fail = go (eq-or-lt_of_le l) (λ (h : q ≤ n). count_is p q n h pass fail)
  where
    go : (q ≡ suc n) ⊎ (q < suc n) → (q ≤ n → count p n ≡ q) → count p (suc n) ≡ q
    go (inl e) rest = count_all p (suc n) (λ k h. pass k (subst (λ (x : ℕ). k < x) (sym e) h)) ∙ sym e
    go (inr h) rest =
        count_suc p n
        ∙ ap (λ (b : Bool). cond b (suc (count p n)) (count p n)) (is_false (p n) (fail n (le_of_suc-le-suc h)))
        ∙ rest (le_of_suc-le-suc h)

pub four_pos : (d : ℕ) → 0 < 4 ^ d
four_pos d = one-le-pow d 4 (zero-lt-suc 3)

pub nearest_is : (n q d : ℕ) → q * q < n + q → n ≤ q * q + q → q ≤ 16777216 → nearest_root (n * 4 ^ d) d ≡ q
unfolding nearest_root
nearest_is n q d above below small = count_is (mid_below (n * 4 ^ d) d) q 16777216 small
    (λ k l. lt→ltb ((2 * k + 1) * (2 * k + 1) * 4 ^ d) (4 * (n * 4 ^ d))
    (lt_of_lt_of_le (mul-lt-mul_of_pos_right (mids_below n q k above l) (four_pos d)) (le_of_eq (mul_assoc 4 n (4 ^ d)))))
    (λ k l. le→nltb ((2 * k + 1) * (2 * k + 1) * 4 ^ d) (4 * (n * 4 ^ d))
    (le_trans (le_of_eq (sym (mul_assoc 4 n (4 ^ d)))) (mul-le-mul_right (4 ^ d) (mids_above n q k below l))))
