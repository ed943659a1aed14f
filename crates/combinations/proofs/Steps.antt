-- What `with_c`, `with_b` and `with_a` return, from what the calls in them return. Assumes nothing.
use mathlib.Core.Path.{◌≡◌}
use Prim.Native.Nat.{ℕ, ◌+◌, ◌-◌, ◌*◌, max}
use native.Mathlib.Numerals.{add-one}
use Rattle.combinations.specs.Combinations.{Combination}
use Rattle.combinations.specs.Successor.{with_a, with_b, with_c}

pub with_c_is : (n s a b c : ℕ) {l x d : ℕ} → l ≡ s + 1 - (a + b + n) → x ≡ max c l → d ≡ s - (a + b + x) → ◌≡◌ {A = Combination} (record { a = a; b = b; c = x; d = d }) (with_c n s a b c)
unfolding with_c
with_c_is n s a b c p q r = cc

pub with_b_is : (n s a b : ℕ) {l x : ℕ} {f : Combination} → l ≡ s + 3 - (a + 2 * n) → x ≡ max b l → f ≡ with_c n s a x (x + 1) → f ≡ with_b n s a b
unfolding with_b
with_b_is n s a b {x = x} p q r = cc (add-one x)

pub with_a_is : (n s a : ℕ) {l x : ℕ} {f : Combination} → l ≡ s + 6 - 3 * n → x ≡ max a l → f ≡ with_b n s x (x + 1) → f ≡ with_a n s a
unfolding with_a
with_a_is n s a {x = x} p q r = cc (add-one x)
