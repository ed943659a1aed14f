use mathlib.Core.Path.{refl}
use native.Mathlib.Omega.{arith}
use Rattle.undivided_run.proofs.ProbeSlot.{square_small, probe_below, probe_past}
use Rattle.undivided_run.proofs.probing.probe_slot.Goals as goal

pub overflow_mul-sum : goal.overflow_mul-sum
overflow_mul-sum c = let a = c.args in let q = square_small a.c a.slots (omega arith) (omega arith) in record { fits = omega arith }

pub overflow_add-sum : goal.overflow_add-sum
overflow_add-sum c = let a = c.args in let q = square_small a.c a.slots (omega arith) (omega arith) in record { fits = omega arith }

pub returns-then-sum-slots : goal.returns-then-sum-slots
returns-then-sum-slots c = probe_below _ _ _ _ refl (omega arith) c.if-sum-slots.true

pub returns : goal.returns
returns c = probe_past _ _ _ _ refl (omega arith)
