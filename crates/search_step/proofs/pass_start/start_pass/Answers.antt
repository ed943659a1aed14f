use Rattle.search_step.proofs.PassStart.{start_pass_few, start_pass_no_slot, start_pass_no_pattern, start_pass_open, start_pass_none}
use Rattle.search_step.proofs.pass_start.start_pass.Goals as goal

pub returns-then-kept-lt4 : goal.returns-then-kept-lt4
returns-then-kept-lt4 c = start_pass_few _ _ _ c.if-kept-lt4.true

pub returns-then-slots-eq0 : goal.returns-then-slots-eq0
returns-then-slots-eq0 c = start_pass_no_slot _ _ _ c.if-kept-lt4.false c.if-slots-eq0.true

pub returns-then-patterns-eq0 : goal.returns-then-patterns-eq0
returns-then-patterns-eq0 c = start_pass_no_pattern _ _ _ c.if-kept-lt4.false c.if-slots-eq0.false c.if-patterns-eq0.true

pub returns-in-Some : goal.returns-in-Some
returns-in-Some c = start_pass_open _ _ _ c.if-kept-lt4.false c.if-slots-eq0.false c.if-patterns-eq0.false _ c.first_combination.ensures _ c.in-Some.is

pub returns-in-None : goal.returns-in-None
returns-in-None c = start_pass_none _ _ _ c.if-kept-lt4.false c.if-slots-eq0.false c.if-patterns-eq0.false _ c.first_combination.ensures c.in-None.is
