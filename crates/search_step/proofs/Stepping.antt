-- The cursor after a read. Assumes nothing.
use mathlib.Core.Path.{◌≡◌}
use Prim.Native.Nat.{ℕ, ◌+◌}
use Rattle.undivided_run.specs.Undivided.{Cap}
use Rattle.undivided_run.specs.declared.state.Position.{Position}
use Rattle.undivided_run.specs.declared.state.Cursor.{Cursor}
use Rattle.undivided_run.specs.declared.state.Next.{Next}
use Rattle.undivided_run.specs.Undivided.{Feed}
use Rattle.undivided_run.specs.Step.{count_tried, next_read}
use Rattle.undivided_run.specs.CallInvariant.{after_read}

pub stepped : {E C : Type 0} (F : Feed E C) (cap : Cap) (w : Cursor) (r : Position) (n : ℕ) → n ≡ count_tried r w.patterns → (x : Next) → x ≡ next_read F cap r n → record { next = x; patterns = n; reads = w.reads + 1 } ≡ after_read F cap w r
stepped F cap w r n ne x xe = rw (xe, ne)
