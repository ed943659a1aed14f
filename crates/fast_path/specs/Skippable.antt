-- Reads of the undivided run that are valid and give no candidate, taken together. Definitions only.
use Rattle.std.specs.Prelude.{◌≡◌, ℕ, zero, suc, ◌-◌, ◌≤◌, ◌<◌, true}
use Rattle.std.specs.Prelude.{None}
use Rattle.undivided_run.specs.declared.state.Position.{Position as Read}
use Rattle.undivided_run.specs.Undivided.{Cap}
use Rattle.undivided_run.specs.declared.state.Next.{Next}
use Rattle.undivided_run.specs.declared.state.Next.TheVariants.{Goes as goes}
use Rattle.undivided_run.specs.Undivided.{Feed, gives}
use Rattle.undivided_run.specs.Step.{count_tried, valid_at, next_read}

-- From w, with n combinations counted, j reads that are valid and give no candidate lead to v, with m combinations counted.
abbrev pub Skippable : {E C : Type 0} → Feed E C → Cap → ℕ → Next → ℕ → Next → ℕ → Type 0
Skippable F cap zero w n v m = (w ≡ v) × (n ≡ m)
Skippable F cap (suc j) w n v m = (r : Read) × ((w ≡ goes r) × (valid_at F r ≡ true) × (gives F r ≡ None) × Skippable F cap j (next_read F cap r (count_tried r n)) (count_tried r n) v m)

-- With an allowance, reads that are valid and give no candidate lead from the read r to the read q, and `left` of the allowance is left.
pub record Leads {E C : Type 0} (F : Feed E C) (r : Read) (allowance left : ℕ) (q : Read) : Type 0 where
  -- No more of the allowance is left than there was.
  pub fewer : left ≤ allowance
  -- Where no read was made, q is r itself.
  pub none_made : left ≡ allowance → q ≡ r
  -- Where reads were made, they are as many as the allowance has lost, and they add to the count what r adds: 1 where r begins a combination.
  pub some_made : left < allowance → (cap : Cap) (n : ℕ) → Skippable F cap (allowance - left) (goes r) n (goes q) (count_tried r n)
