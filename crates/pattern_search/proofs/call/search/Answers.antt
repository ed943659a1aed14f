use mathlib.Core.Path.{sym, ◌∙◌, ap}
use Rattle.question.specs.Question.{refused_by}
use Rattle.search_feed.specs.Lent.{data_in}
use Rattle.pattern_search.proofs.Answers.{and_said}
use Rattle.pattern_search.proofs.Calling.{call_seven}
use Rattle.pattern_search.proofs.call.search.Goals as goal

pub go-requires : goal.go-requires
go-requires c = sym c.first_seven.ensures ∙ ap refused_by c.in-Ok.is

pub returns-in-Err : goal.returns-in-Err
returns-in-Err c =
    let D = data_in c.args.frame.now c.args.table.now in
    let h = and_said c.args.state (record { lent_data = D; allowance = c.args.allowance }) _ (call_seven D c.args.state c.args.allowance _ _ c.first_seven.ensures c.in-Err.is) in
    record { returned = h.0; says = h.1 }

pub returns-in-Ok : goal.returns-in-Ok
returns-in-Ok c =
    let D = data_in c.args.frame.now c.args.table.now in
    let h = and_said c.args.state (record { lent_data = D; allowance = c.args.allowance }) _ c.go.ensures in
    record { returned = h.0; says = h.1 }
