use mathlib.Core.Path.{refl, sym, ap, ◌∙◌}
use Rattle.std.specs.Prelude.{Ok}
use borrow.Author.Tests.{not-true, not-false}
use Rattle.pattern_entry.specs.Entry.{bytes_at, entry_read}
use Rattle.candidates.proofs.StarsInside.{valid_inside}
use Rattle.search_feed.proofs.TableRead.{entry_invalid, entry_tested}
use Rattle.search_feed.proofs.evaluate_entry.Goals as goal

pub returns-then-not-is_valid : goal.returns-then-not-is_valid
returns-then-not-is_valid c = entry_invalid _ _ _ _ _ _ _ _ _ _ (sym c.is_valid.ensures ∙ not-true _ c.if-not-is_valid.true-raw) refl

pub test_entry-measured-requires : goal.test_entry-measured-requires
test_entry-measured-requires c =
    let a = c.args in
    let e = c.read_packed-read.ensures ∙ ap entry_read c.bytes.ensures in
    rw e (valid_inside a.stars.now (bytes_at a.entry.now.packed.now a.entry.now.place) (sym c.is_valid.ensures ∙ not-false _ c.if-not-is_valid.false-raw))

pub returns : goal.returns
returns c =
    let a = c.args in
    let e = c.read_packed-read.ensures ∙ ap entry_read c.bytes.ensures in
    entry_tested _ _ _ _ _ _ _ _ _ _
    (sym c.is_valid.ensures ∙ not-false _ c.if-not-is_valid.false-raw)
    _ e _ c.mark_of.ensures _ c.max_error-e.ensures _ c.test_entry-measured.ensures (ap Ok c.make_candidate.ensures)
