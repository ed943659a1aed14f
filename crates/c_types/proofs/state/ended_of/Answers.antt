use mathlib.Core.Path.{sym, ap, ◌∙◌}
use Rattle.std.specs.Result.{result_ok}
use Rattle.c_types.proofs.Ended.{ended_known, ended_unknown}
use Rattle.c_types.proofs.state.ended_of.Goals as goal

pub returns-in-Ok : goal.returns-in-Ok
returns-in-Ok c = ended_known c.args.status c.args.patterns c.args.reads c.in-Ok.how (sym (ap result_ok c.in-Ok.is) ∙ c.try_from.ensures)

pub returns-in-Err : goal.returns-in-Err
returns-in-Err c = c.unknown_state.ensures ∙ ended_unknown c.args.status c.args.patterns c.args.reads (sym (ap result_ok c.in-Err.is) ∙ c.try_from.ensures)
