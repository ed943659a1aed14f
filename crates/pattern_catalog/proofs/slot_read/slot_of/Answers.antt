use mathlib.Core.Path.{sym, ap, ◌∙◌}
use Rattle.pattern_catalog.specs.Answers.{filled_at}
use Rattle.pattern_catalog.proofs.SlotRead.{read_place}
use Rattle.pattern_catalog.proofs.slot_read.slot_of.Goals as goal

pub returns-in-Some : goal.returns-in-Some
returns-in-Some c =
    let a = c.args in
    let e = rw c.in-Some.is at c.in_ok-find.ensures in
    sym (ap filled_at (read_place a.slots a.words.now a.packed.now a.slot _ (sym e)).1) ∙ e
