-- Question 5: what `all` says of the passes, its tests, and what a yes to it says of each pass. Assumes nothing.
use mathlib.Core.Path.{◌≡◌, refl, sym, ap, subst, ◌∙◌}
use Prim.Native.Nat.{ℕ, zero, suc, ◌/◌, ◌%◌, ◌≤◌, ◌<◌}
use native.Mathlib.Omega.{arith}
use mathlib.Core.Logic.{inl, inr}
use native.Mathlib.Nat.{eq-or-lt_of_le}
use mathlib.Core.Bool.{true, ◌&&◌}
use mathlib.Core.List.{List}
use lib.Dec.{leb, eqb}
use lib.ListN.{length}
use lib.Ieee.{Float}
use borrow.Author.Tests.{leb-true}
use Rattle.std.specs.List.{list_all, range_with_len}
use Rattle.numeric.proofs.AllBelow.{all_more}
use Rattle.numeric.proofs.Tests.{both}
use Rattle.settings.specs.PassLimits.{field_fits, scale_fits, cosine_fits}
use Rattle.settings.specs.Passes.{pass_fits, pass_at, first_fit, passes_fit}

-- What `all` says of the first n passes.
pub first_is : (ps : List Float) (n : ℕ) → list_all (λ i. pass_fits (pass_at ps i)) (range_with_len 0 n) ≡ first_fit ps n
unfolding first_fit
first_is ps zero = refl
first_is ps (suc n) = all_more (λ i. pass_fits (pass_at ps i)) n ∙ ap (◌&& pass_fits (pass_at ps n)) (first_is ps n)

first_each : (ps : List Float) (i n : ℕ) → first_fit ps n ≡ true → i < n → pass_fits (pass_at ps i) ≡ true
unfolding first_fit
first_each ps i zero h l = absurd (omega arith)
first_each ps i (suc n) h l =
    let p = both (first_fit ps n) (pass_fits (pass_at ps n)) h in
    elim (eq-or-lt_of_le l) [
      | inl e ↦ let z : i ≡ n = omega arith in subst (λ k. pass_fits (pass_at ps k) ≡ true) (sym z) p.1
      | inr m ↦ first_each ps i n p.0 (omega arith)
    ]

-- What holds of a pass slice that question 5 lets through.
pub record Fitting (ps : List Float) : Type 0 where
  pub some : 0 < length ps / 3
  pub few : length ps / 3 ≤ 256
  pub fields : (i : ℕ) → i < length ps / 3 → field_fits (pass_at ps i).field ≡ true
  pub scales : (i : ℕ) → i < length ps / 3 → scale_fits (pass_at ps i).scale ≡ true
  pub cosines : (i : ℕ) → i < length ps / 3 → cosine_fits (pass_at ps i).cosine ≡ true

pub passes_fitting : (ps : List Float) → passes_fit ps ≡ true → Fitting ps
unfolding passes_fit pass_fits
passes_fitting ps h =
    let p1 = both (eqb (length ps % 3) 0) _ h in
    let p2 = both (leb 3 (length ps)) _ p1.1 in
    let p3 = both (leb (length ps) 768) _ p2.1 in
    let lo = leb-true 3 (length ps) p2.0 in
    let hi = leb-true (length ps) 768 p3.0 in
    let each : (i : ℕ) → i < length ps / 3 → pass_fits (pass_at ps i) ≡ true = λ i l. first_each ps i (length ps / 3) p3.1 l in
    record {
      some = omega arith;
      few = omega arith;
      fields = λ i l. (both (field_fits (pass_at ps i).field) _ (each i l)).0;
      scales = λ i l. (both (scale_fits (pass_at ps i).scale) _ (both (field_fits (pass_at ps i).field) _ (each i l)).1).0;
      cosines = λ i l. (both (scale_fits (pass_at ps i).scale) _ (both (field_fits (pass_at ps i).field) _ (each i l)).1).1;
    }
