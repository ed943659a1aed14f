use mathlib.Core.Path.{refl, sym, ap, ◌∙◌}
use Prim.Native.Nat.{◌+◌}
use native.Mathlib.Omega.{arith}
use Rattle.pattern_catalog.specs.Answers.{Answer}
use Rattle.pattern_catalog.specs.SlotRead.{section_part, part_start}
use Rattle.pattern_entry.proofs.Bytes.{part_is}
use Rattle.pattern_catalog.proofs.SlotRead.{read_place}
use Rattle.pattern_catalog.proofs.slot_read.entry_of.Goals as goal

-- Where the slot read gives a place, the 22 bytes
-- that begin at it lie in the section.
pub overflow_mul-a : goal.overflow_mul-a
overflow_mul-a c = let a = c.args in omega (arith, (read_place a.slots a.words.now a.packed.now a.slot _ (sym (rw c.in-Ok-Some.field-0-is at c.in-Ok-Some.ensures))).2)

pub overflow_add-e : goal.overflow_add-e
overflow_add-e c = let a = c.args in omega (arith, (read_place a.slots a.words.now a.packed.now a.slot _ (sym (rw c.in-Ok-Some.field-0-is at c.in-Ok-Some.ensures))).2)

pub returns-in-Ok-Some : goal.returns-in-Ok-Some
returns-in-Ok-Some c =
    let a = c.args in
    let e = sym (rw c.in-Ok-Some.field-0-is at c.in-Ok-Some.ensures) in
    record { bytes = part_is a.packed.now _ ∙ sym (ap (section_part a.packed.now) e); place = (refl, sym (ap (λ (x : Answer). part_start x + a.packed.ref_ptr.1) e)) }

pub returns-in-Ok-None : goal.returns-in-Ok-None
returns-in-Ok-None c =
    let a = c.args in
    let e = sym (rw c.in-Ok-None.field-0-is at c.in-Ok-None.ensures) in
    record { bytes = sym (ap (section_part a.packed.now) e); place = (refl, sym (ap (λ (x : Answer). part_start x + a.packed.ref_ptr.1) e)) }

pub returns-in-Err : goal.returns-in-Err
returns-in-Err c =
    let a = c.args in
    let e = sym c.in-Err.ensures in
    record { bytes = sym (ap (section_part a.packed.now) e); place = (refl, sym (ap (λ (x : Answer). part_start x + a.packed.ref_ptr.1) e)) }

pub slice_bounds-result-end : goal.slice_bounds-result-end
slice_bounds-result-end c = let a = c.args in omega (arith, (read_place a.slots a.words.now a.packed.now a.slot _ (sym (rw c.in-Ok-Some.field-0-is at c.in-Ok-Some.ensures))).2)
