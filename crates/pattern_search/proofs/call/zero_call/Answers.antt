use Rattle.undivided_run.specs.Step.{zero_call}
use Rattle.pattern_search.specs.Answers.{said}
use Rattle.pattern_search.proofs.call.zero_call.Goals as goal

pub returns-in-Ends : goal.returns-in-Ends
unfolding zero_call said
returns-in-Ends c = rw c.in-Ends.is

pub returns-in-Goes : goal.returns-in-Goes
unfolding zero_call said
returns-in-Goes c = rw c.in-Goes.is
