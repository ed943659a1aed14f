use Rattle.pattern_search.proofs.SkippedReads.{after_skip_none, after_skip_some}
use Rattle.pattern_search.proofs.reading.after_skip.Goals as goal

pub returns-then-s-allowance : goal.returns-then-s-allowance
returns-then-s-allowance c = let a = c.args in after_skip_none a.cursor a.p a.s a.allowance c.if-s-allowance.true

pub returns : goal.returns
returns c =
    let a = c.args in
    after_skip_some a.cursor a.p a.s a.allowance c.if-s-allowance.false _ c.at_key-to.ensures _ c.count-n.ensures
