use mathlib.Core.Path.{◌∙◌}
use borrow.Author.Tests.{ne_eqb}
use Rattle.search_feed.specs.Data.{data_of}
use Rattle.search_feed.specs.Lent.{frame_in}
use Rattle.search_feed.specs.Feed.{feed}
use Rattle.search_questions.proofs.StateFits.{fresh_counted, fresh_by_reads, ended_by_counts, at_not, at_by_counts}
use Rattle.search_questions.proofs.question_8.state_fits.Goals as goal

pub returns-then-st-eq0-clause-fits : goal.returns-then-st-eq0-clause-fits
returns-then-st-eq0-clause-fits c = λ w e s. fresh_by_reads _ _ _ _ c.in-Fresh.is c.if-st-eq0.true

pub returns-else-st-eq0-clause-fits : goal.returns-else-st-eq0-clause-fits
returns-else-st-eq0-clause-fits c = λ w e s. ne_eqb _ _ c.if-st-eq0.false ∙ fresh_counted _ _ _ _ c.in-Fresh.is c.if-st-eq0.false

pub returns-in-Ended-clause-fits : goal.returns-in-Ended-clause-fits
returns-in-Ended-clause-fits c = λ w e s. ended_by_counts _ _ _ _ _ c.in-Ended.is _ c.within_counts.ensures

pub returns-then-position_exists-clause-fits : goal.returns-then-position_exists-clause-fits
returns-then-position_exists-clause-fits c =
    let F = frame_in c.args.fitting.now.frame in
    λ w e s. at_by_counts (feed (data_of F c.args.slots w e s)) c.args.st.phase c.args.st.patterns c.args.st.reads _ c.in-At.is _ (c.position_exists.ensures.fits w e s) c.if-position_exists.true _ c.within_counts-then-position_exists.ensures

pub returns-else-position_exists-clause-fits : goal.returns-else-position_exists-clause-fits
returns-else-position_exists-clause-fits c =
    let F = frame_in c.args.fitting.now.frame in
    λ w e s. c.if-position_exists.false ∙ at_not (feed (data_of F c.args.slots w e s)) c.args.st.phase c.args.st.patterns c.args.st.reads _ c.in-At.is _ (c.position_exists.ensures.fits w e s) c.if-position_exists.false
