use mathlib.Core.Path.{sym, ap, ◌∙◌}
use Rattle.std.specs.Prelude.{Some}
use Rattle.std.specs.Result.{result_ok}
use Rattle.stream.proofs.Ended.{ended_known, ended_unknown}
use Rattle.stream.proofs.from_words.ended_of.Goals as goal

pub returns-in-Ok : goal.returns-in-Ok
returns-in-Ok c = ap Some c.state_in.ensures ∙ ended_known c.args.status c.args.w c.in-Ok.how (sym (ap result_ok c.in-Ok.is) ∙ c.try_from.ensures)

pub returns-in-Err : goal.returns-in-Err
returns-in-Err c = ended_unknown c.args.status c.args.w (sym (ap result_ok c.in-Err.is) ∙ c.try_from.ensures)
