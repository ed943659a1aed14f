use mathlib.Core.Path.{sym, ap}
use native.Mathlib.Omega.{arith}
use Rattle.pattern_catalog.proofs.SlotRead.{read_place}
use Rattle.c_types.specs.Results.{part_numbers}
use Rattle.star_search.proofs.exports.star_entry.Goals as goal

pub overflow_mul-result : goal.overflow_mul-result
overflow_mul-result c = let a = c.args in omega (arith, (read_place a.slots a.words.now a.packed.now a.slot _ (sym (rw c.in-Ok-Some.field-0-is at c.in-Ok-Some.ensures))).2)

pub returns-in-Ok-Some : goal.returns-in-Ok-Some
returns-in-Ok-Some c = ap part_numbers (rw c.in-Ok-Some.field-0-is at c.in-Ok-Some.ensures)
