-- The slot of a probe is found without a division where the sum is below the slot count, and with one past it. Assumes nothing.
use mathlib.Core.Path.{◌≡◌, sym, ap, ◌∙◌, subst}
use Prim.Native.Nat.{ℕ, ◌+◌, ◌*◌, ◌%◌, ◌≤◌, ◌<◌}
use native.Mathlib.Omega.{arith}
use native.Mathlib.Nat.{mul-le-mul, mod-lt, mod-eq_of_lt}

pub square_small : (c slots : ℕ) → slots ≤ 16777216 → c < slots → c * c ≤ 16777216 * 16777216
square_small c slots f l = mul-le-mul (let p : c ≤ 16777216 = omega arith in p) (let p : c ≤ 16777216 = omega arith in p)

module _ (h c slots s : ℕ) (e : s ≡ h) (p : 0 < slots) where
  pub probe_below : s + c * c < slots → (s + c * c ≡ (h + c * c) % slots) × (s + c * c < slots)
  probe_below l = (ap (◌+ c * c) e ∙ sym (mod-eq_of_lt (subst (λ x. x + c * c < slots) e l)), l)

  pub probe_past : ((s + c * c) % slots ≡ (h + c * c) % slots) × ((s + c * c) % slots < slots)
  probe_past = (ap (λ x. (x + c * c) % slots) e, mod-lt (s + c * c) p)
