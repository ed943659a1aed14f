use mathlib.Core.Path.{sym, ◌∙◌}
use Rattle.pattern_entry.specs.Entry.{bytes_at}
use Rattle.pattern_entry.proofs.Bytes.{whole_at}
use Rattle.fast_path.proofs.SlotPeek.{mark_same, mark_other, below_valid}
use Rattle.fast_path.proofs.probe_chain.is_valid_mismatch.Goals as goal

pub returns-then-mark : goal.returns-then-mark
returns-then-mark c =
    let a = c.args in
    mark_same a.known.now.table.stars.now a.mark (bytes_at a.known.now.table.packed.now a.place) _ c.mark.ensures c.if-mark.true

pub returns-then-indices_below : goal.returns-then-indices_below
returns-then-indices_below c =
    let a = c.args in
    let e = bytes_at a.known.now.table.packed.now a.place in
    mark_other a.known.now.table.stars.now a.mark e _ c.mark.ensures c.if-mark.false _ (below_valid a.known.now.table.stars.now a.known.now.valid a.known.now.below e (whole_at a.known.now.table.packed.now a.place c.requires) (sym c.indices_below.ensures ∙ c.if-indices_below.true))

pub returns : goal.returns
returns c =
    let a = c.args in
    mark_other a.known.now.table.stars.now a.mark (bytes_at a.known.now.table.packed.now a.place) _ c.mark.ensures c.if-mark.false _ c.is_valid.ensures
