use Rattle.search_feed.specs.Lent.{data_in}
use Rattle.pattern_search.proofs.Iterating.{reply_ended, reply_used}
use Rattle.pattern_search.proofs.reading.iterate.Goals as goal

pub returns-then-allowance-eq0 : goal.returns-then-allowance-eq0
returns-then-allowance-eq0 c =
    let D = data_in c.args.fitting.now.frame c.args.known.now.table in
    reply_used D c.args.st c.args.allowance c.args.cursor _ c.state-then-allowance-eq0.ensures _ c.in-Goes.is c.if-allowance-eq0.true

pub returns-in-Ends : goal.returns-in-Ends
returns-in-Ends c =
    let D = data_in c.args.fitting.now.frame c.args.known.now.table in
    reply_ended D c.args.st c.args.allowance c.args.cursor _ c.state.ensures _ c.in-Ends.is

pub returns-else-allowance-eq0 : goal.returns-else-allowance-eq0
returns-else-allowance-eq0 c = c.skip_then_read.ensures
