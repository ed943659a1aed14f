-- Reads that are valid and give no candidate, taken together, of any run; and what they leave of a call. Assumes nothing.
use mathlib.Core.Path.{◌≡◌, refl, subst, ◌∙◌}
use Prim.Native.Nat.{ℕ, zero, suc, ◌+◌, ◌-◌, ◌<◌}
use native.Mathlib.Omega.{arith}
use native.Mathlib.Nat.{eq-or-lt_of_le}
use mathlib.Core.Bool.{true, false}
use mathlib.Core.Logic.{⊎_elim}
use Rattle.std.specs.Prelude.{None}
use Rattle.undivided_run.specs.declared.state.Position.{Position as Read}
use Rattle.undivided_run.specs.Undivided.{Cap}
use Rattle.undivided_run.specs.declared.state.State.{State}
use Rattle.undivided_run.specs.declared.state.Cursor.{Cursor}
use Rattle.undivided_run.specs.declared.state.Next.{Next}
use Rattle.undivided_run.specs.declared.state.Next.TheVariants.{Goes as goes}
use Rattle.undivided_run.specs.Undivided.{Feed, gives, starts}
use Rattle.undivided_run.specs.Step.{count_tried, valid_at, next_read}
use Rattle.undivided_run.specs.PositionExists.{Keyed}
use Rattle.undivided_run.specs.CallInvariant.{CallInvariant, continuing}
use Rattle.undivided_run.proofs.CallSteps.{good_after, iterate_passed}
use Rattle.fast_path.specs.Skippable.{Skippable, Leads}

pub skippable_cat : {E C : Type 0} (F : Feed E C) (cap : Cap) (j k t : ℕ) (w v u : Next) (n m l : ℕ) → j + k ≡ t → Skippable F cap j w n v m → Skippable F cap k v m u l → Skippable F cap t w n u l
skippable_cat F cap zero k t w v u n m l h d e = let z : k ≡ t = omega arith in rw (d.0, d.1) (subst (λ x. Skippable F cap x v m u l) z e)
skippable_cat F cap (suc j) k zero w v u n m l h d e = absurd (omega arith)
skippable_cat F cap (suc j) k (suc t) w v u n m l h d e = (d.0, (d.1.0, d.1.1, d.1.2, skippable_cat F cap j k t _ v u _ m l (omega arith) d.1.3 e))

-- A read that doesn't begin a combination adds none to the count.
pub not_counted : (r : Read) (n : ℕ) → starts r ≡ false → count_tried r n ≡ n
unfolding count_tried
not_counted r n h = rw h

module _ {E C : Type 0} (F : Feed E C) where
  pub leads_nowhere : (r : Read) (a : ℕ) → Leads F r a a r
  leads_nowhere r a = record { fewer = omega arith; none_made = λ e. refl; some_made = λ h. absurd (omega arith) }

  -- Reads that lead from r to t, which doesn't begin a combination, followed by those that lead from t to q, lead from r to q.
  module _ (r t q : Read) (b : ℕ) (later : starts t ≡ false) where
    pub leads_then : (a left : ℕ) → b < a → ((cap : Cap) (n : ℕ) → Skippable F cap (a - b) (goes r) n (goes t) (count_tried r n)) → Leads F t b left q → Leads F r a left q
    leads_then a left l d o =
        record {
          fewer = omega (arith, o.fewer);
          none_made = λ e. absurd (omega (arith, o.fewer));
          some_made = λ h cap n. ⊎_elim (λ e. stays cap n e) (λ e. goes_on cap n e) (eq-or-lt_of_le {n = left} {m = b} o.fewer);
        }
      where
        stays : (cap : Cap) (n : ℕ) → left ≡ b → Skippable F cap (a - left) (goes r) n (goes q) (count_tried r n)
        stays cap n e = rw (e, o.none_made e) (d cap n)

        goes_on : (cap : Cap) (n : ℕ) → left < b → Skippable F cap (a - left) (goes r) n (goes q) (count_tried r n)
        goes_on cap n h =
            skippable_cat F cap (a - b) (b - left) (a - left) (goes r) (goes t) (goes q) n (count_tried r n) (count_tried r n) (omega arith) (d cap n)
            (subst (λ m. Skippable F cap (b - left) (goes t) (count_tried r n) (goes q) m) (not_counted t (count_tried r n) later) (o.some_made h cap (count_tried r n)))

  -- One valid read that gives no candidate is skippable.
  pub skippable_one : (cap : Cap) (r : Read) (n : ℕ) (v : Next) → valid_at F r ≡ true → gives F r ≡ None → next_read F cap r (count_tried r n) ≡ v → Skippable F cap 1 (goes r) n v (count_tried r n)
  skippable_one cap r n v s g e = (r, (refl, s, g, (e, refl)))

  module _ (cap : Cap) (keyed : Keyed F) where
    -- A call that begins with skippable reads answers and leaves what it does from where they lead to, with the rest of its allowance.
    pub skippable_rest : (j a left : ℕ) (w : Cursor) (v : Next) (n m : ℕ) → left + j ≡ a → m ≡ w.reads + j → CallInvariant F cap w → Skippable F cap j w.next w.patterns v n → ((st : State) → continuing F cap st left (record { next = v; patterns = n; reads = m }) ≡ continuing F cap st a w) × CallInvariant F cap (record { next = v; patterns = n; reads = m })
    skippable_rest zero a left w v n m h k g d =
        let z : left ≡ a = omega arith in
        let y : m ≡ w.reads = omega arith in
        rw (z, y, ← d.0, ← d.1) (λ st. refl, g)
    skippable_rest (suc j) a left w v n m h k g d =
        let r = d.0 in
        let then : Cursor = record { next = next_read F cap r (count_tried r w.patterns); patterns = count_tried r w.patterns; reads = w.reads + 1 } in
        let ih = skippable_rest j (a - 1) left then v n m (omega arith) (omega arith) (good_after F cap keyed w r d.1.0 g) d.1.3 in
        (λ st. ih.0 st ∙ iterate_passed F cap st a w r d.1.0 (omega arith) d.1.1 d.1.2, ih.1)
