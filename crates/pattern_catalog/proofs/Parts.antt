-- How the answers of `slot_of` and `entry_of` for one slot go together. Assumes nothing.
use Prim.Native.Nat.{ℕ}
use mathlib.Core.Path.{◌≡◌, refl, sym, ap, ◌∙◌}
use native.Mathlib.Omega.{arith}
use lib.ListN.{length}
use Rattle.pattern_catalog.specs.Blocks.{place}
use Rattle.pattern_entry.specs.Entry.{bytes_at}
use Rattle.pattern_catalog.specs.SlotRead.{slot_read, section_part}
use Rattle.pattern_catalog.specs.Claims.{SlotSaysOnce, PartFilled, PartEmpty}
use Rattle.pattern_catalog.specs.declared.slot_read.Slot.{Slot}
use Rattle.std.specs.Prelude.{Ok, Err}
use Rattle.question.proofs.Numbers.{number_once}
use Rattle.pattern_entry.proofs.Bytes.{whole_at}
use Rattle.pattern_catalog.proofs.SlotRead.{read_place}

pub slot_says_once : SlotSaysOnce
slot_says_once words s (Ok Slot.Filled) (Ok Slot.Filled) h = refl
slot_says_once words s (Ok Slot.Filled) (Ok Slot.Empty) h = let z : ◌≡◌ {A = ℕ} 0 1 = cc in absurd (omega arith)
slot_says_once words s (Ok Slot.Filled) (Err p) h = let z : ◌≡◌ {A = ℕ} 0 1 = cc in absurd (omega arith)
slot_says_once words s (Ok Slot.Empty) (Ok Slot.Filled) h = let z : ◌≡◌ {A = ℕ} 0 1 = cc in absurd (omega arith)
slot_says_once words s (Ok Slot.Empty) (Ok Slot.Empty) h = refl
slot_says_once words s (Ok Slot.Empty) (Err p) h = let z : ◌≡◌ {A = ℕ} 0 1 = cc in absurd (omega arith)
slot_says_once words s (Err q) (Ok Slot.Filled) h = let z : ◌≡◌ {A = ℕ} 0 1 = cc in absurd (omega arith)
slot_says_once words s (Err q) (Ok Slot.Empty) h = let z : ◌≡◌ {A = ℕ} 0 1 = cc in absurd (omega arith)
slot_says_once words s (Err q) (Err p) h = ap Err (number_once q p (cc))

pub part_filled : PartFilled
part_filled slots words packed s h =
    let i = (read_place slots words packed s (place words s) (sym h)).2 in
    let e : section_part packed (slot_read slots words packed s) ≡ bytes_at packed (place words s) = sym (ap (section_part packed) h) in
    (e, ap length e ∙ whole_at packed (place words s) i)

pub part_empty : PartEmpty
part_empty slots words packed s (Ok Slot.Filled) h k = absurd (k refl)
part_empty slots words packed s (Ok Slot.Empty) h k = sym (ap (section_part packed) h)
part_empty slots words packed s (Err q) h k = sym (ap (section_part packed) h)
