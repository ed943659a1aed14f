-- The hash as its code works it out, from the highest power down, and a bound on it. Assumes nothing.
use Rattle.std.proofs.Common.{◌≡◌, ℕ, ◌+◌, ◌*◌, ◌^◌, ◌<◌, ◌≤◌, get_or, mul-le-mul_left, pow-suc, arith}
use native.Mathlib.Nat.{pow-zero}
use Rattle.pattern.specs.Key.{hash_of}
use Rattle.pattern.specs.KeyClaims.{HashBelow}

-- A bound on one step of the hash.
pub above_small : (h b p : ℕ) → b ≤ 4096 → p ≤ 4096 → h * b + p ≤ h * 4096 + 4096
above_small h b p i j = let m = mul-le-mul_left h i in omega arith

-- The steps from the highest power down give the sum of part i times B ^ i.
pub from_above : (a b c d e B : ℕ) → (((e * B + d) * B + c) * B + b) * B + a ≡ a * B ^ 0 + b * B ^ 1 + c * B ^ 2 + d * B ^ 3 + e * B ^ 4
from_above a b c d e B =
    let p0 : B ^ 0 ≡ 1 = pow-zero B in
    let p1 : B ^ 1 ≡ B ^ 0 * B = pow-suc B 0 in
    let p2 : B ^ 2 ≡ B ^ 1 * B = pow-suc B 1 in
    let p3 : B ^ 3 ≡ B ^ 2 * B = pow-suc B 2 in
    let p4 : B ^ 4 ≡ B ^ 3 * B = pow-suc B 3 in
    rw (p4, p3, p2, p1, p0) (omega arith)

-- A hash is below 2 ^ 62, so nothing wraps.
pub hash_below : HashBelow
unfolding hash_of
hash_below k B p =
    let few = p.few in
    let d = above_small (get_or k 4 0) B (get_or k 3 0) few (omega (arith, p.fourth)) in
    let c = above_small (get_or k 4 0 * B + get_or k 3 0) B (get_or k 2 0) few (omega (arith, p.third)) in
    let b = above_small ((get_or k 4 0 * B + get_or k 3 0) * B + get_or k 2 0) B (get_or k 1 0) few (omega (arith, p.second)) in
    let a = above_small (((get_or k 4 0 * B + get_or k 3 0) * B + get_or k 2 0) * B + get_or k 1 0) B (get_or k 0 0) few (omega (arith, p.first)) in
    within (get_or k 4 0) _ _ _ _ _ (omega (arith, p.fifth)) d c b a (from_above (get_or k 0 0) (get_or k 1 0) (get_or k 2 0) (get_or k 3 0) (get_or k 4 0) B)
  where
    within : (e d c b a h : ℕ) → e ≤ 4096 → d ≤ e * 4096 + 4096 → c ≤ d * 4096 + 4096 → b ≤ c * 4096 + 4096 → a ≤ b * 4096 + 4096 → a ≡ h → h < 4611686018427387904
    within e d c b a h p q r s t u = omega arith
